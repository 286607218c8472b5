-- What is kept of a core module, so that its definitions are looked up at once (Core 2.0, section 2.5.1).
use Rattle.std.specs.Prelude.{◌≡◌, ℕ, List, map}
use Rattle.std.specs.BTreeMap.{BTreeMap}
use Rattle.syntax_trees.specs.declared.module_types.Limits.{Limits}
use Rattle.syntax_trees.specs.declared.module.ModuleTree.{ModuleTree}
use Rattle.syntax_trees.specs.Names.{at_name, first_named}
use Rattle.comp_graph.specs.CoreItems.{table_space, memory_space}
use denote.Ref.{Bor}

-- The spaces are those of the module, and of each name the number of the first export is kept.
pub record IsIndexed (m space : ModuleTree) (tables memories : List Limits) (numbers : BTreeMap (Bor (List ℕ)) ℕ) : Type 0 where
  pub space_is : space ≡ m
  pub tables_are : tables ≡ table_space m
  pub memories_are : memories ≡ memory_space m
  pub named : (q : List ℕ) → at_name numbers q ≡ first_named q (map (λ e. e.name) m.exports)
