-- Linking as it stands (Component Model, Explainer.md, "Index Spaces"): the component instances that have begun, with their index
-- spaces as references into tables, the core instances, the core functions of the Canonical ABI, the resources, the plan, and the types
-- of streams and futures. What stands behind the references is told by the lists of exports that the instances so far have.
use Rattle.std.specs.Prelude.{◌≡◌, ℕ, Bool, true, false, List, map, Option, Some, None}
use Rattle.std.specs.List.{slice_get, AllZip}
use Rattle.syntax_trees.specs.declared.module.ModuleTree.{ModuleTree}
use Rattle.comp_graph.specs.Passed.{TypeTable, AreCanonTypes}
use Rattle.canon_types.specs.EndNumbers.{AreEndTypes}
use Rattle.link_spec.specs.Definitions.{Exports, export_names}
use Rattle.link_spec.specs.Spaces.{Spaces, Linking}
use Rattle.link_spec.specs.Computed.{Outcome, Makes, Starts}
use Rattle.link_types.specs.Table.{Table, IsType}
use Rattle.link_instances.specs.declared.references.InstanceRef.{InstanceRef}
use Rattle.link_instances.specs.References.{World, IsInstance, IsLifted, IsListing}
use Rattle.link_instances.specs.Instances.{AreInstances}
use Rattle.link_meanings.specs.Levels.{IsClosure}
use Rattle.link_state.specs.declared.scope.Scope.{Scope}
use Rattle.link_state.specs.declared.linker.Linker.{Linker}

-- what stands behind the numbers of a linker whose instances so far have these exports
abbrev pub world_of : List Exports → Linker → World
world_of bases k = record { components = k.components.items; bases = bases; modules = k.cores.modules }

-- the types of functions and of values, by their numbers
abbrev pub type_table : Table → TypeTable
type_table t = record { funcs = t.funcs; values = t.values }

-- a core module, by its number
abbrev pub IsModule : World → ℕ → ModuleTree → Type 0
IsModule w number m = slice_get w.modules number ≡ Some m

-- what a component is given
abbrev pub AreGiven : Table → World → Option InstanceRef → Option Exports → Type 0
AreGiven t w None None = Unit {0}
AreGiven t w (Some instance) (Some exports) = IsInstance t w instance exports
AreGiven t w instance exports = ⊥

-- The index spaces of a component instance.
pub record IsScope (t : Table) (w : World) (scope : Scope) (s : Spaces) : Type 0 where
  pub core_modules : AllZip (IsModule w) scope.core_modules.items s.core_modules
  pub core_instances : s.core_instances ≡ scope.core_instances.items
  pub core_funcs : s.core_funcs ≡ scope.core_funcs.items
  pub core_tables : s.core_tables ≡ scope.core_tables.items
  pub core_memories : s.core_memories ≡ scope.core_memories.items
  pub core_globals : s.core_globals ≡ scope.core_globals.items
  pub components : AllZip (IsClosure w.components) scope.components.items s.components
  pub instances : AllZip (IsInstance t w) scope.instances.items s.instances
  pub funcs : AllZip (IsLifted t) scope.funcs.items s.funcs
  pub types : AllZip (IsType t) scope.types.items s.types
  pub imports : s.imports ≡ scope.imports
  pub exports : IsListing t w scope.exports s.exports
  pub export_names : export_names s.exports ≡ scope.export_names
  pub arguments : AreGiven t w scope.arguments s.arguments
  pub around : s.around ≡ scope.around

-- What is kept of the index spaces of a component instance: what outer aliases see of it, and all of them until it ends.
pub record IsKept (t : Table) (w : World) (scope : Scope) (s : Spaces) : Type 0 where
  pub types : AllZip (IsType t) scope.types.items s.types
  pub components : AllZip (IsClosure w.components) scope.components.items s.components
  pub whole : scope.ended ≡ false → IsScope t w scope s

-- which component instances have ended
abbrev pub ended : Linker → List Bool
ended k = map (λ (scope : Scope). scope.ended) k.scopes.items

-- A component instance is live: it has begun, and has not ended.
abbrev pub IsLive : Linker → ℕ → Type 0
IsLive k n = slice_get (ended k) n ≡ Some false

-- What is live stays live.
abbrev pub StayLive : Linker → Linker → Type 0
StayLive old new = (n : ℕ) → IsLive old n → IsLive new n

-- A linker stands for a linking, where its instances so far have these exports.
pub record IsState (bases : List Exports) (k : Linker) (l : Linking) : Type 0 where
  pub instances : AreInstances k.types (world_of bases k) k.instances
  pub scopes : AllZip (IsKept k.types (world_of bases k)) k.scopes.items l.scopes
  pub cores : l.cores ≡ k.cores.makes
  pub canons : l.canons ≡ k.canons.items
  pub canon_types : AreCanonTypes (type_table k.types) k.canon_types.items k.canons.items
  pub resources : l.resources ≡ k.resources.items
  pub plan : l.plan ≡ k.plan.items
  pub ends : AreEndTypes k.types.values k.end_types l.end_types
  pub room : l.has_room ≡ true

-- It does so for some exports.
abbrev pub Stands : Linker → Linking → Type 0
Stands k l = (bases : List Exports) × IsState bases k l

-- a component instance of a linking, with its index spaces, which has not ended
pub record IsAt (bases : List Exports) (k : Linker) (n : ℕ) (l : Linking) (s : Spaces) : Type 0 where
  pub state : IsState bases k l
  pub there : slice_get l.scopes n ≡ Some s
  pub live : IsLive k n

-- A linker stands for a linking, and a reference for an instance of these exports, which no space needs to have.
pub record IsThere (k : Linker) (l : Linking) (i : InstanceRef) (exports : Exports) : Type 0 where
  pub bases : List Exports
  pub state : IsState bases k l
  pub instance : IsInstance k.types (world_of bases k) i exports

-- an item is linked: what it makes is what the linker stands for
abbrev pub IsMade : Linker → Outcome → Type 0
IsMade k (Makes new) = Stands k new
IsMade k (Starts c arguments) = ⊥
