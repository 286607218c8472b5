-- Sound definitions: what each function lifts with is there, with the types that it needs; types are apart, no two names of an
-- instance are equal, and each module has what those of the component have. Sound spaces hold sound definitions and core items that
-- are there. Of sound linkings what the Canonical ABI makes stands on what is there.
use Rattle.std.proofs.Common.{◌≡◌, false, List, []}
use Rattle.std.specs.Prelude.{IfSome}
use Rattle.std.specs.List.{AllByRecursion}
use Rattle.syntax_trees.specs.Names.{is_among}
use Rattle.syntax_trees.specs.declared.module.ModuleTree.{ModuleTree}
use Rattle.laid_types.specs.Handles.{held_borrow}
use Rattle.comp_graph.specs.declared.graph.Lift.{Lift}
use Rattle.comp_graph.specs.declared.graph.CanonFunc.{CanonFunc}
use Rattle.comp_graph.specs.declared.graph.CanonFunc.TheVariants as canon_func
use Rattle.comp_graph.specs.Graph.{CoreMake, IsLiftThere, IsItem, AreImported, AreMade, passed_value}
use Rattle.comp_graph.specs.Closed.{Closed}
use Rattle.link_spec.specs.Definitions.{CoreItem, Memory, CoreExport, Lifted, Closure, Definition, AFunc, AType, AComponent, AnInstance, AModule, Exports, EmptyInstance, WithExport, export_names}
use Rattle.link_spec.specs.Spaces.{Spaces, Linking}
use Rattle.link_spec.proofs.Apart.{IsFuncApart, IsApart}
use Rattle.link_spec.proofs.Modules.{ModulesHave}

-- the lift of a function
abbrev pub lift_for : Lifted → Lift
lift_for f = record { instance = f.instance; core = f.core; options = f.options }

pub record IsFuncSound (cores : List CoreMake) (canons : List CanonFunc) (f : Lifted) : Type 0 where
  pub there : IsLiftThere cores canons f.func_type (lift_for f)
  pub apart : IsFuncApart f.func_type

-- What is lowered has a type whose labels are apart and which is shallow, and what a built-in passes holds no borrowed handle.
abbrev pub HasApartType : CanonFunc → Type 0
HasApartType (canon_func.Lower l) = IsFuncApart l.func_type
HasApartType (canon_func.Builtin b) = held_borrow (passed_value b.kind) ≡ false

-- a memory that is there
abbrev pub IsMemoryItem : List CoreMake → List CanonFunc → CoreItem → Type 0
IsMemoryItem cores canons (Memory memory limits) = IsItem cores canons (Memory memory limits)
IsMemoryItem cores canons item = ⊥

abbrev pub AreThere : List CoreMake → List CanonFunc → List CoreExport → Type 0
AreThere cores canons exports = AllByRecursion (λ (e : CoreExport). IsItem cores canons e.item) exports

abbrev mutual
  pub IsSound : (ModuleTree → Type 0) → List CoreMake → List CanonFunc → Definition → Type 0
  IsSound R cores canons (AFunc f) = IsFuncSound cores canons f
  IsSound R cores canons (AType type) = IsApart type
  IsSound R cores canons (AComponent c) = ModulesHave R c.items
  IsSound R cores canons (AnInstance exports) = AreSound R cores canons exports
  IsSound R cores canons (AModule m) = R m

  pub AreSound : (ModuleTree → Type 0) → List CoreMake → List CanonFunc → Exports → Type 0
  AreSound R cores canons EmptyInstance = Unit {0}
  AreSound R cores canons (WithExport others name d) = AreSound R cores canons others × IsSound R cores canons d × (is_among name (export_names others) ≡ false)

pub record AreCoreSound (R : ModuleTree → Type 0) (cores : List CoreMake) (canons : List CanonFunc) (modules : List ModuleTree) (instances : List (List CoreExport)) (funcs tables memories globals : List CoreItem) : Type 0 where
  pub modules_have : AllByRecursion R modules
  pub instances_there : AllByRecursion (AreThere cores canons) instances
  pub funcs_there : AllByRecursion (IsItem cores canons) funcs
  pub tables_there : AllByRecursion (IsItem cores canons) tables
  pub memories_there : AllByRecursion (IsMemoryItem cores canons) memories
  pub globals_there : AllByRecursion (IsItem cores canons) globals

pub record AreDefinedSound (R : ModuleTree → Type 0) (cores : List CoreMake) (canons : List CanonFunc) (components : List Closure) (instances : List Exports) (funcs : List Lifted) (types : List Closed) : Type 0 where
  pub components_have : AllByRecursion (λ (c : Closure). ModulesHave R c.items) components
  pub instances_sound : AllByRecursion (AreSound R cores canons) instances
  pub funcs_sound : AllByRecursion (IsFuncSound cores canons) funcs
  pub types_apart : AllByRecursion IsApart types

pub record AreSpacesSound (R : ModuleTree → Type 0) (cores : List CoreMake) (canons : List CanonFunc) (s : Spaces) : Type 0 where
  pub core : AreCoreSound R cores canons s.core_modules s.core_instances s.core_funcs s.core_tables s.core_memories s.core_globals
  pub defined : AreDefinedSound R cores canons s.components s.instances s.funcs s.types
  pub exports_sound : AreSound R cores canons s.exports
  pub arguments_sound : IfSome s.arguments (AreSound R cores canons)

pub record IsLinkingSound (R : ModuleTree → Type 0) (l : Linking) : Type 0 where
  pub scopes : AllByRecursion (AreSpacesSound R l.cores l.canons) l.scopes
  pub imported : AreImported l.canons [] l.cores
  pub made : AreMade l.cores l.canons l.resources
  pub called : AllByRecursion HasApartType l.canons
  pub modules_have : AllByRecursion (λ (core : CoreMake). R core.of_module) l.cores
