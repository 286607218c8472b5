-- Core modules by their numbers, and core instances that are made of them (Core 2.0, section 4.5.4; Component Model, Explainer.md,
-- "Instance Definitions").
use Rattle.std.specs.Prelude.{◌≡◌, ℕ, List, map, Some}
use Rattle.std.specs.List.{slice_get, AllByRecursion, AllZip}
use Rattle.syntax_trees.specs.declared.module.ModuleTree.{ModuleTree}
use Rattle.comp_graph.specs.declared.graph.CanonFunc.{CanonFunc}
use Rattle.comp_graph.specs.Graph.{CoreMake, IsItem}
use Rattle.link_spec.specs.Definitions.{CoreExport}
use Rattle.link_core_exports.specs.declared.modules.CoreModules.{CoreModules}

-- The core instances are made of these modules, of each of which the number is kept, and the types are those of the modules.
pub record AreModulesOf (made : CoreModules) (cores : List CoreMake) : Type 0 where
  pub types_are : made.types ≡ map (λ (m : ModuleTree). m.types) made.modules.items
  pub made_of_are : AllZip (λ (number : ℕ) (core : CoreMake). slice_get made.modules.items number ≡ Some core.of_module) made.made_of.items cores

-- All that core instances export is there.
abbrev pub AreAllThere : List CoreMake → List CanonFunc → List (List CoreExport) → Type 0
AreAllThere cores canons instances = AllByRecursion (λ (exports : List CoreExport). AllByRecursion (λ (e : CoreExport). IsItem cores canons e.item) exports) instances
