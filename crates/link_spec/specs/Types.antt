-- What a type means (Component Model, Explainer.md, "Type Definitions"): the closed type, where all its indices are there, all
-- names that it looks up are found, and all that it names is of the wanted sort. What keeps it from a meaning is told by
-- its reason. A declaration of an instance type adds an index also where it has no meaning, so that each reason is looked for
-- over the whole type.
use Rattle.std.specs.Prelude.{ℕ, ◌+◌, Bool, ◌&&◌, is_none, cond, nat_le, List, [], ◌∷◌, ◌++◌, length, map, Option, Some, None}
use Rattle.std.specs.Option.{option_map, option_and_then, option_map_or}
use Rattle.std.specs.List.{slice_get, list_all}
use Rattle.syntax_trees.specs.Names.{first_twice, is_among}
use Rattle.syntax_trees.specs.declared.types.Param.{Param}
use Rattle.syntax_trees.specs.declared.types.FuncType.{FuncType}
use Rattle.comp_tree.specs.declared.instances.Sort.{Sort}
use Rattle.comp_tree.specs.declared.instances.Sort.TheVariants as sorts
use Rattle.comp_tree.specs.declared.instances.AliasTarget.{AliasTarget}
use Rattle.comp_tree.specs.declared.instances.AliasTarget.TheVariants as target
use Rattle.comp_tree.specs.declared.externs.ExternDesc.{ExternDesc}
use Rattle.comp_tree.specs.declared.externs.ExternDesc.TheVariants as desc
use Rattle.comp_tree.specs.declared.types.Param as read_param
use Rattle.comp_tree.specs.declared.types.FuncType as read_func
use Rattle.comp_tree.specs.declared.types.DefType.{DefType, fold-DefType}
use Rattle.comp_tree.specs.declared.types.DefType.TheOpen.{DefType-F, InstanceDecl-F}
use Rattle.comp_graph.specs.Closed.{Closed, Func, Resource, Instance, Extern, OfFunc, OfType, OfInstance, Externs, EmptyType, WithExtern, extern_named, externs_of, func_of}
use Rattle.link_values.specs.Resources.{resource_room, first_brought, further_in, brought_behind}
use Rattle.link_spec.specs.Brought.{moved, moved_externs, brought}
use Rattle.link_spec.specs.Definitions.{Closure}
use Rattle.link_spec.specs.Spaces.{Level}
pub use Rattle.link_spec.specs.Meaning.{Meaning, absent, meant, lacking_name, found, kept_if, and_told}
pub use Rattle.link_spec.specs.ValueTypes.{primitive, is_within, held_within, close_val, close_held, close_passed, close_all, value_meaning}

-- Functions.

abbrev pub all_within : ℕ → read_func.FuncType → Bool
all_within count type = list_all (λ p. is_within count p.val_type) type.params && held_within count type.result

abbrev pub close_param : List (Option Closed) → read_param.Param → Option Param
close_param types p = option_map (λ type. record { label = p.label; val_type = type }) (close_val types p.val_type)

abbrev pub close_params : List (Option Closed) → List read_param.Param → Option (List Param)
close_params types params = close_all (close_param types) params

-- A function type has its labels distinct, and gives no borrowed handle.
abbrev pub close_func : List (Option Closed) → read_func.FuncType → Option FuncType
close_func types type =
    cond (is_none (first_twice (map (λ p. p.label) type.params)))
    (option_and_then (λ params. option_map (λ returned. record { params = params; result = returned }) (close_passed types type.result))
    (close_params types type.params))
    None

abbrev pub func_meaning : List (Option Closed) → read_func.FuncType → Meaning Closed
func_meaning types type = cond (all_within (length types) type) (meant (option_map Func (close_func types type))) absent

-- Imports and exports.

-- what one is to be, over these types; any type of resources has no meaning of its own
abbrev pub desc_meaning : List (Option Closed) → ExternDesc → Meaning Extern
desc_meaning types (desc.Func index) = found (λ type. option_map OfFunc (func_of type)) (slice_get types index)
desc_meaning types (desc.TypeEq index) = found (λ type. Some (OfType type)) (slice_get types index)
desc_meaning types (desc.Instance index) = found (λ type. option_map OfInstance (externs_of type)) (slice_get types index)
desc_meaning types desc.Resource = meant None

-- The same where a type is given for it, if one is. Where any type of resources is asked for, the one that is given stands for itself.
abbrev pub resource_meant : Option Closed → Meaning Extern
resource_meant (Some (Resource number)) = meant (Some (OfType (Resource number)))
resource_meant given = meant None

abbrev pub given_meaning : List (Option Closed) → Option Closed → ExternDesc → Meaning Extern
given_meaning types given desc.Resource = resource_meant given
given_meaning types given asked = desc_meaning types asked

-- the index of its type, if it has one
abbrev pub desc_index : ExternDesc → Option ℕ
desc_index (desc.Func index) = Some index
desc_index (desc.TypeEq index) = Some index
desc_index (desc.Instance index) = Some index
desc_index desc.Resource = None

-- Instance types.

-- The index spaces of an instance type that a declaration can name, what of it is told so far, and its exports so far, where all of
-- it has a meaning.
pub record Declared : Type 0 where
  pub types : List (Option Closed)
  pub components : List (Option Closure)
  pub instances : List (Option Externs)
  pub names : List (List ℕ)
  -- how many resources its exports bring so far
  pub resources : ℕ
  pub so_far : Meaning Externs

abbrev pub nothing_declared : Declared
nothing_declared = record { types = []; components = []; instances = []; names = []; resources = 0; so_far = meant (Some EmptyType) }

abbrev pub own_level : Declared → Level
own_level d = record { types = d.types; components = d.components }

-- one index more in the space of a sort, which stands for this or has no meaning
abbrev pub type_in : Option Extern → Option Closed
type_in (Some (OfType type)) = Some type
type_in other = None

abbrev pub instance_in : Option Extern → Option Externs
instance_in (Some (OfInstance externs)) = Some externs
instance_in other = None

abbrev pub with_declared : Declared → Sort → Option Extern → Declared
with_declared d sorts.Func e = d
with_declared d sorts.Type e = record d { types = d.types ++ type_in e ∷ [] }
with_declared d sorts.Instance e = record d { instances = d.instances ++ instance_in e ∷ [] }
with_declared d sorts.Component e = record d { components = d.components ++ None ∷ [] }
with_declared d (sorts.Core sort) e = d

-- a declaration behind others
abbrev pub told : {B : Type 0} → Declared → Meaning B → Declared
told d now = record d { so_far = and_told d.so_far now }

-- an extern of a sort
abbrev pub of_sort : Sort → Extern → Option Extern
of_sort sorts.Func (OfFunc type) = Some (OfFunc type)
of_sort sorts.Type (OfType type) = Some (OfType type)
of_sort sorts.Instance (OfInstance externs) = Some (OfInstance externs)
of_sort sort extern = None

-- An alias of an instance's export in an instance type. An instance without a meaning has no export that is known to be missing.
abbrev pub of_export : Sort → List ℕ → Option Extern → Meaning Extern
of_export sort name None = lacking_name name
of_export sort name (Some extern) = meant (of_sort sort extern)

abbrev pub exported : Sort → List ℕ → Option Externs → Meaning Extern
exported sort name None = meant None
exported sort name (Some all) = of_export sort name (extern_named name all)

abbrev pub from_instance : Sort → List ℕ → Option (Option Externs) → Meaning Extern
from_instance sort name None = absent
from_instance sort name (Some known) = exported sort name known

-- an outer type of the level so many levels further out
abbrev pub outer_type : ℕ → ℕ → Option Level → Meaning Closed
outer_type up index None = absent
outer_type up index (Some level) = found (λ type. Some (moved (further_in up) 0 type)) (slice_get level.types index)

abbrev pub outer_component : ℕ → Option Level → Meaning Closure
outer_component index None = absent
outer_component index (Some level) = found (λ c. Some c) (slice_get level.components index)

abbrev pub with_component : Declared → Meaning Closure → Declared
with_component d c = told (record d { components = d.components ++ c.means ∷ [] }) c

-- a type, which has this meaning
abbrev pub with_type : Declared → Meaning Closed → Declared
with_type d type = told (with_declared d sorts.Type (option_map OfType type.means)) type

-- a declaration of a sort, which has this meaning
abbrev pub declared_as : Declared → Sort → Meaning Extern → Declared
declared_as d sort extern = told (with_declared d sort extern.means) extern

-- an outer alias, which is of a component or a type
abbrev pub with_outer : Declared → List Level → Sort → ℕ → ℕ → Declared
with_outer d levels sorts.Component up index = with_component d (outer_component index (slice_get levels up))
with_outer d levels sorts.Type up index = with_type d (outer_type up index (slice_get levels up))
with_outer d levels sort up index = declared_as d sort absent

-- An alias. An instance type has no core instances.
abbrev pub with_alias : List Level → Declared → Sort → AliasTarget → Declared
with_alias around d sort (target.InstanceExport instance name) = declared_as d sort (from_instance sort name (slice_get d.instances instance))
with_alias around d sort (target.CoreInstanceExport instance name) = declared_as d sort absent
with_alias around d sort (target.Outer up index) = with_outer d (own_level d ∷ around) sort up index

-- An export: one index more of what it is, and a name, which no export before it has. With it the instance type brings no more resources
-- than there are numbers for.
abbrev pub sort_of : ExternDesc → Sort
sort_of (desc.Func index) = sorts.Func
sort_of (desc.TypeEq index) = sorts.Type
sort_of (desc.Instance index) = sorts.Instance
sort_of desc.Resource = sorts.Type

abbrev pub extended : List ℕ → Option Extern → Option Externs → Option Externs
extended name (Some extern) (Some others) = Some (WithExtern others name extern)
extended name extern others = None

abbrev pub under_name : Declared → Option Externs → List ℕ → Option Extern → Declared
under_name d before name extern = record d {
  names = d.names ++ name ∷ [];
  so_far = record d.so_far { has_room = d.so_far.has_room && nat_le d.resources resource_room; means = cond (is_among name d.names) None (extended name extern before) };
}

-- What an export is to be: any type of resources is the next one that the instance type brings, and what the type of an instance
-- brings comes behind what was brought so far.
abbrev pub as_exported : ℕ → Closed → Option Extern
as_exported resources type = option_map (λ externs. OfInstance (moved_externs (brought_behind resources) 0 externs)) (externs_of type)

abbrev pub described : Declared → ExternDesc → Meaning Extern
described d desc.Resource = meant (Some (OfType (Resource (first_brought 0 + d.resources))))
described d (desc.Instance index) = found (as_exported d.resources) (slice_get d.types index)
described d asked = desc_meaning d.types asked

-- how many resources an export brings
abbrev pub brought_by : Option Externs → ℕ
brought_by externs = option_map_or brought externs 0

abbrev pub brings : Declared → ExternDesc → ℕ
brings d desc.Resource = 1
brings d (desc.Instance index) = brought_by (option_and_then externs_of (option_and_then (λ type. type) (slice_get d.types index)))
brings d asked = 0

abbrev pub with_described : Declared → List ℕ → ExternDesc → Meaning Extern → Declared
with_described d name asked extern =
    under_name (record (declared_as d (sort_of asked) extern) { resources = d.resources + brings d asked }) d.so_far.means name extern.means

abbrev pub with_export : Declared → List ℕ → ExternDesc → Declared
with_export d name asked = with_described d name asked (described d asked)

-- An instance type: its declarations, each behind those before it.
abbrev pub declared_by : List Level → Declared → List (List Level → Declared → Declared) → Declared
declared_by around d [] = d
declared_by around d (decl ∷ decls) = declared_by around (decl around d) decls

abbrev pub instance_meaning : Declared → Meaning Closed
instance_meaning d = record {
  is_there = d.so_far.is_there;
  missing = d.so_far.missing;
  deep = d.so_far.deep;
  has_room = d.so_far.has_room;
  means = option_map Instance d.so_far.means;
}

-- What a type means in these levels, of which the first is where it stands. A type of resources is made by what is linked alone: in an
-- instance type it has no meaning.
abbrev pub InLevels : Type 0
InLevels = List Level → Meaning Closed

abbrev pub types_around : List Level → List (Option Closed)
types_around [] = []
types_around (level ∷ around) = level.types

abbrev pub type_step : DefType-F InLevels (List Level → Declared → Declared) → InLevels
type_step (DefType-F.Value type) levels = value_meaning (types_around levels) type
type_step (DefType-F.Func type) levels = func_meaning (types_around levels) type
type_step (DefType-F.Instance decls) levels = instance_meaning (declared_by levels nothing_declared decls)
type_step (DefType-F.Resource destructor) levels = meant None

abbrev pub decl_step : InstanceDecl-F InLevels (List Level → Declared → Declared) → List Level → Declared → Declared
decl_step (InstanceDecl-F.Type type) around d = with_type d (type (own_level d ∷ around))
decl_step (InstanceDecl-F.Alias alias) around d = with_alias around d alias.sort alias.target
decl_step (InstanceDecl-F.Export name asked) around d = with_export d name asked

abbrev pub meaning_of : DefType → InLevels
meaning_of = fold-DefType InLevels (List Level → Declared → Declared) type_step decl_step
