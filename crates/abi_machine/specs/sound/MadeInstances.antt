-- Core instances that were made (Core 2.0, the appendix on soundness; Component Model, Explainer.md, "Instance Definitions"): of a graph of valid modules, what
-- each imports was made before it, and each has what its module says.
use Rattle.std.specs.Prelude.{◌≡◌, ℕ, List, [], ◌++◌, length, drop, Some}
use Rattle.std.specs.List.{slice_get, AllByRecursion}
use Rattle.syntax_trees.specs.declared.module_types.Limits.{Limits}
use Rattle.syntax_trees.specs.declared.module.ModuleTree.{ModuleTree}
use Rattle.wasm_typing.specs.Modules.{Typed}
use Rattle.wasm_memory.specs.Memories.{MemoryState, page_count}
use Rattle.wasm_store.specs.Store.{Table, Instance, Store, table_at, memory_at}
use Rattle.wasm_store.specs.Instantiation.{InRange, LimitsMatch}
use Rattle.wasm_store.specs.Typed.{HasContext, module_context}
use Rattle.comp_graph.specs.CoreItems.{table_space, memory_space}
use Rattle.comp_graph.specs.Graph.{CoreMake, Graph, AreImported}
use Rattle.abi_machine.specs.sound.Owners.{Makes}

-- The modules are valid, no memory of theirs begins with more pages than any may have, what is imported is there, and the plan makes each core
-- instance, in order.
pub record IsTypedGraph (g : Graph) : Type 0 where
  pub valid : AllByRecursion (λ c. Typed c.of_module) g.cores
  pub in_range : AllByRecursion (λ c. InRange c.of_module) g.cores
  pub imported : AreImported g.canons [] g.cores
  pub planned : Makes 0 g.plan g.cores

-- An instance of a module has what the module says, and of each index a table and a memory of the limits that the module gives it.
pub record IsMadeOf (m : ModuleTree) (s : Store) (i : Instance) : Type 0 where
  pub has : HasContext s i (module_context m)
  pub tables : (index : ℕ) (limits : Limits) → slice_get (table_space m) index ≡ Some limits → (p : ℕ × Table) × (table_at index i s ≡ Some p) × LimitsMatch (length p.1.entries) p.1.max limits
  pub memories : (index : ℕ) (limits : Limits) → slice_get (memory_space m) index ≡ Some limits
      → (p : ℕ × MemoryState) × (memory_at index i s ≡ Some p) × LimitsMatch (page_count p.1) p.1.maximum limits

-- These core instances were made, in order, and no others: that of number k has address k.
pub record WereMade (s : Store) (cores : List CoreMake) : Type 0 where
  pub count : length s.instances ≡ length cores
  pub each : (number : ℕ) (c : CoreMake) → slice_get cores number ≡ Some c → (i : Instance) × (slice_get s.instances number ≡ Some i) × IsMadeOf c.of_module s i

-- All core instances of a graph were made but those that the plan makes from an action on.
pub record WereMadeSoFar (g : Graph) (s : Store) (n : ℕ) : Type 0 where
  pub before : List CoreMake
  pub after : List CoreMake
  pub cores_are : g.cores ≡ before ++ after
  pub made : WereMade s before
  pub left : Makes (length before) (drop n g.plan) after
