-- Index spaces (Component Model, Explainer.md, "Index Spaces"): a component that is linked has one for each sort, to which its
-- items add in file order. Beside them stand what it imports and exports so far, what it is given, and the component
-- instances that it sees around it. All component instances are kept by their numbers, in order of beginning, and all core
-- instances, all core functions that the Canonical ABI makes and all resources by theirs, in order of making.
use Rattle.std.specs.Prelude.{ℕ, Bool, ◌&&◌, List, [], ◌∷◌, ◌++◌, length, map, set, Option, Some, None}
use Rattle.std.specs.Option.{option_map, option_and_then}
use Rattle.std.specs.List.{slice_get, flat_map}
use Rattle.syntax_trees.specs.declared.types.ValType.{ValType}
use Rattle.syntax_trees.specs.declared.module.ModuleTree.{ModuleTree}
use Rattle.comp_tree.specs.declared.core_instances.CoreSort.{CoreSort}
use Rattle.comp_tree.specs.declared.core_instances.CoreSort.TheVariants as core_sort
use Rattle.comp_tree.specs.declared.instances.Sort.{Sort}
use Rattle.comp_tree.specs.declared.instances.Sort.TheVariants as sorts
pub use Rattle.comp_graph.specs.declared.graph.Action.{Action}
pub use Rattle.comp_graph.specs.declared.graph.Action.TheVariants.{Begin, Make}
pub use Rattle.comp_graph.specs.Graph.{CoreMake}
use Rattle.comp_graph.specs.declared.graph.CanonFunc.{CanonFunc}
use Rattle.comp_graph.specs.declared.graph.Resource.{Resource}
use Rattle.comp_graph.specs.Closed.{Closed}
use Rattle.link_spec.specs.Definitions.{CoreItem, Func, Table, Memory, Global, CoreExport, Lifted, Closure, Definition, AFunc, AType, AComponent, AnInstance, AModule, Exports, EmptyInstance}

-- the index spaces of a component instance, and what is known of it besides
pub record Spaces : Type 0 where
  pub core_modules : List ModuleTree
  pub core_instances : List (List CoreExport)
  pub core_funcs : List CoreItem
  pub core_tables : List CoreItem
  pub core_memories : List CoreItem
  pub core_globals : List CoreItem
  pub components : List Closure
  pub instances : List Exports
  pub funcs : List Lifted
  pub types : List Closed
  -- the names of its imports so far, and its exports so far
  pub imports : List (List ℕ)
  pub exports : Exports
  -- its arguments; none of the root, which is given instances of types
  pub arguments : Option Exports
  -- the component instances around it, from the inside out
  pub around : List ℕ

-- before the first item
abbrev pub new_spaces : Option Exports → List ℕ → Spaces
new_spaces arguments around = record {
  core_modules = [];
  core_instances = [];
  core_funcs = [];
  core_tables = [];
  core_memories = [];
  core_globals = [];
  components = [];
  instances = [];
  funcs = [];
  types = [];
  imports = [];
  exports = EmptyInstance;
  arguments = arguments;
  around = around;
}

-- the component instances, the core instances, the core functions of the Canonical ABI and the resources so far, by their numbers,
-- what was made so far, the types of streams and futures so far, and whether there are numbers for all resources that types of instances
-- bring so far: where there are not, the numbers of resources say nothing
pub record Linking : Type 0 where
  pub scopes : List Spaces
  pub cores : List CoreMake
  pub canons : List CanonFunc
  pub resources : List Resource
  pub plan : List Action
  pub end_types : List ValType
  pub has_room : Bool

-- how many definitions a space has
abbrev pub core_size : Spaces → CoreSort → ℕ
core_size s core_sort.Func = length s.core_funcs
core_size s core_sort.Table = length s.core_tables
core_size s core_sort.Memory = length s.core_memories
core_size s core_sort.Global = length s.core_globals
core_size s core_sort.Module = length s.core_modules
core_size s core_sort.Instance = length s.core_instances

abbrev pub size_of : Spaces → Sort → ℕ
size_of s (sorts.Core sort) = core_size s sort
size_of s sorts.Func = length s.funcs
size_of s sorts.Type = length s.types
size_of s sorts.Component = length s.components
size_of s sorts.Instance = length s.instances

-- the core item of a sort and an index; modules and instances are none
abbrev pub core_item_at : Spaces → CoreSort → ℕ → Option CoreItem
core_item_at s core_sort.Func index = slice_get s.core_funcs index
core_item_at s core_sort.Table index = slice_get s.core_tables index
core_item_at s core_sort.Memory index = slice_get s.core_memories index
core_item_at s core_sort.Global index = slice_get s.core_globals index
core_item_at s core_sort.Module index = None
core_item_at s core_sort.Instance index = None

-- the definition of a sort and an index; of the core sorts modules alone are definitions
abbrev pub core_definition_at : Spaces → CoreSort → ℕ → Option Definition
core_definition_at s core_sort.Module index = option_map AModule (slice_get s.core_modules index)
core_definition_at s sort index = None

abbrev pub definition_at : Spaces → Sort → ℕ → Option Definition
definition_at s (sorts.Core sort) index = core_definition_at s sort index
definition_at s sorts.Func index = option_map AFunc (slice_get s.funcs index)
definition_at s sorts.Type index = option_map AType (slice_get s.types index)
definition_at s sorts.Component index = option_map AComponent (slice_get s.components index)
definition_at s sorts.Instance index = option_map AnInstance (slice_get s.instances index)

-- whether a core item is of a sort, and a definition
abbrev pub IsOfCoreSort : CoreItem → CoreSort → Type 0
IsOfCoreSort (Func f type) core_sort.Func = Unit {0}
IsOfCoreSort (Table t limits) core_sort.Table = Unit {0}
IsOfCoreSort (Memory m limits) core_sort.Memory = Unit {0}
IsOfCoreSort (Global g type) core_sort.Global = Unit {0}
IsOfCoreSort item sort = ⊥

abbrev pub IsOfSort : Definition → Sort → Type 0
IsOfSort (AModule m) (sorts.Core core_sort.Module) = Unit {0}
IsOfSort (AFunc f) sorts.Func = Unit {0}
IsOfSort (AType type) sorts.Type = Unit {0}
IsOfSort (AComponent c) sorts.Component = Unit {0}
IsOfSort (AnInstance exports) sorts.Instance = Unit {0}
IsOfSort d sort = ⊥

-- one index more, in the space of what it is
abbrev pub with_core_item : Spaces → CoreItem → Spaces
with_core_item s (Func f type) = record s { core_funcs = s.core_funcs ++ Func f type ∷ [] }
with_core_item s (Table t limits) = record s { core_tables = s.core_tables ++ Table t limits ∷ [] }
with_core_item s (Memory m limits) = record s { core_memories = s.core_memories ++ Memory m limits ∷ [] }
with_core_item s (Global g type) = record s { core_globals = s.core_globals ++ Global g type ∷ [] }

abbrev pub with_core_instance : Spaces → List CoreExport → Spaces
with_core_instance s exports = record s { core_instances = s.core_instances ++ exports ∷ [] }

abbrev pub with_definition : Spaces → Definition → Spaces
with_definition s (AModule m) = record s { core_modules = s.core_modules ++ m ∷ [] }
with_definition s (AFunc f) = record s { funcs = s.funcs ++ f ∷ [] }
with_definition s (AType type) = record s { types = s.types ++ type ∷ [] }
with_definition s (AComponent c) = record s { components = s.components ++ c ∷ [] }
with_definition s (AnInstance exports) = record s { instances = s.instances ++ exports ∷ [] }

-- the linking with these spaces of a component instance
abbrev pub with_spaces : Linking → ℕ → Spaces → Linking
with_spaces l n s = record l { scopes = set l.scopes n s }

-- the linking with these types of streams and futures, behind a type with numbers for what types of instances in it bring, or without
abbrev pub with_ends : Linking → List ValType → Bool → Linking
with_ends l types room = record l { end_types = types; has_room = room && l.has_room }

-- What an outer alias sees of a level: its types, each with its meaning, and its components. A type without a meaning stands in an
-- instance type that is refused, and there `bool` may stand in the place of one that is too deep.
pub record Level : Type 0 where
  pub types : List (Option Closed)
  pub components : List (Option Closure)

abbrev pub level_of : Spaces → Level
level_of s = record { types = map Some s.types; components = map Some s.components }

-- the levels of these component instances
abbrev pub listed_level : Option Level → List Level
listed_level None = []
listed_level (Some level) = level ∷ []

abbrev pub levels_at : Linking → List ℕ → List Level
levels_at l numbers = flat_map (λ n. listed_level (option_map level_of (slice_get l.scopes n))) numbers

-- what an outer alias may name: a type or a component
abbrev pub outer_definition : Sort → ℕ → Spaces → Option Definition
outer_definition sorts.Type index s = definition_at s sorts.Type index
outer_definition sorts.Component index s = definition_at s sorts.Component index
outer_definition sort index s = None

-- the definition of an outer alias, as many levels out of these component instances, from the inside out
abbrev pub outer_at : Linking → List ℕ → Sort → ℕ → ℕ → Option Definition
outer_at l numbers sort up index =
    option_and_then (outer_definition sort index) (option_and_then (slice_get l.scopes) (slice_get numbers up))
