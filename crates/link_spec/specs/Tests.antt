-- What `Definitions` and `Items` say of definitions and of sorts, as tests.
use Rattle.std.specs.Prelude.{ℕ, Bool, true, false, not, ◌&&◌, nat_le, is_none, List, [], ◌∷◌, Option, Some, None}
use Rattle.std.specs.Option.{option_map_or}
use Rattle.std.specs.List.{slice_get}
use Rattle.syntax_trees.specs.Names.{first_twice}
use Rattle.syntax_trees.specs.SameTypes.{same_type, same_types}
use Rattle.syntax_trees.specs.declared.module_types.FuncType as core
use Rattle.syntax_trees.specs.declared.module_types.Limits.{Limits}
use Rattle.syntax_trees.specs.declared.module_types.GlobalType.{GlobalType}
use Rattle.syntax_trees.specs.declared.module_types.Mutability.{Mutability}
use Rattle.syntax_trees.specs.declared.module_types.Mutability.TheVariants.{Constant, Variable}
use Rattle.syntax_trees.specs.declared.module.Import.{Import}
use Rattle.syntax_trees.specs.declared.module.ImportDesc.{ImportDesc}
use Rattle.syntax_trees.specs.declared.module.ImportDesc.TheVariants as wanted
use Rattle.syntax_trees.specs.declared.module.ModuleTree.{ModuleTree}
use Rattle.comp_tree.specs.declared.core_instances.CoreSort.{CoreSort}
use Rattle.comp_tree.specs.declared.core_instances.CoreSort.TheVariants as core_sort
use Rattle.comp_tree.specs.declared.instances.Sort.{Sort}
use Rattle.comp_tree.specs.declared.instances.Sort.TheVariants as sorts
use Rattle.comp_tree.specs.declared.externs.ExternDesc.{ExternDesc}
use Rattle.comp_tree.specs.declared.externs.ExternDesc.TheVariants as desc
use Rattle.comp_graph.specs.Closed.{Extern, OfFunc, OfType, OfInstance, Externs, EmptyType, WithExtern, names_resource}
use Rattle.link_spec.specs.Definitions.{CoreItem, Func, Table, Memory, Global, Definition, AFunc, AType, AComponent, AnInstance, AModule, Exports, export_named}
use Rattle.link_spec.specs.Same.{same_func, same_closed}

-- names, no two of them equal
abbrev pub are_distinct : List (List ℕ) → Bool
are_distinct names = is_none (first_twice names)

-- Core items.

abbrev pub same_core_func : core.FuncType → core.FuncType → Bool
same_core_func type other = same_types type.params other.params && same_types type.results other.results

abbrev pub same_mutability : Mutability → Mutability → Bool
same_mutability Constant Constant = true
same_mutability Constant Variable = false
same_mutability Variable Constant = false
same_mutability Variable Variable = true

abbrev pub same_global : GlobalType → GlobalType → Bool
same_global type other = same_type type.val_type other.val_type && same_mutability type.mutability other.mutability

abbrev pub max_is_within : Option ℕ → Option ℕ → Bool
max_is_within max None = true
max_is_within None (Some most) = false
max_is_within (Some max) (Some most) = nat_le max most

abbrev pub is_within : Limits → Limits → Bool
is_within limits asked = nat_le asked.min limits.min && max_is_within limits.max asked.max

abbrev pub is_core_func : Option core.FuncType → core.FuncType → Bool
is_core_func None type = false
is_core_func (Some other) type = same_core_func other type

abbrev pub core_fits : ModuleTree → CoreItem → ImportDesc → Bool
core_fits m (Func f type) (wanted.Func index) = is_core_func (slice_get m.types index) type
core_fits m (Table t limits) (wanted.Table asked) = is_within limits asked
core_fits m (Memory memory limits) (wanted.Memory asked) = is_within limits asked
core_fits m (Global g type) (wanted.Global asked) = same_global type asked
core_fits m item other = false

-- items, each of which is what its import asks for
abbrev pub all_fit : ModuleTree → List Import → List CoreItem → Bool
all_fit m [] items = true
all_fit m (i ∷ imports) [] = false
all_fit m (i ∷ imports) (item ∷ items) = core_fits m item i.desc && all_fit m imports items

abbrev pub is_of_core_sort : CoreItem → CoreSort → Bool
is_of_core_sort (Func f type) core_sort.Func = true
is_of_core_sort (Table t limits) core_sort.Table = true
is_of_core_sort (Memory m limits) core_sort.Memory = true
is_of_core_sort (Global g type) core_sort.Global = true
is_of_core_sort item sort = false

abbrev pub is_core_of : CoreItem → Sort → Bool
is_core_of item (sorts.Core core) = is_of_core_sort item core
is_core_of item sort = false

-- Definitions.

abbrev pub is_of_sort : Definition → Sort → Bool
is_of_sort (AModule m) (sorts.Core core_sort.Module) = true
is_of_sort (AFunc f) sorts.Func = true
is_of_sort (AType type) sorts.Type = true
is_of_sort (AComponent c) sorts.Component = true
is_of_sort (AnInstance exports) sorts.Instance = true
is_of_sort d sort = false

abbrev mutual
  pub fits : Definition → Extern → Bool
  fits (AFunc f) (OfFunc type) = same_func f.func_type type
  fits (AType type) (OfType asked) = same_closed type asked
  fits (AnInstance given) (OfInstance asked) = fit_all given asked
  fits d extern = false

  pub fit_all : Exports → Externs → Bool
  fit_all given EmptyType = true
  fit_all given (WithExtern others name extern) = fit_all given others && option_map_or (λ d. fits d extern) (export_named name given) false

abbrev pub are_types : Externs → Bool
are_types EmptyType = true
are_types (WithExtern others name (OfFunc type)) = false
are_types (WithExtern others name (OfType type)) = are_types others && not (names_resource type)
are_types (WithExtern others name (OfInstance inner)) = false

-- What the root may import, as far as it has a meaning.
abbrev pub is_of_types : Extern → Bool
is_of_types (OfInstance externs) = are_types externs
is_of_types extern = false

abbrev pub root_may_import : ExternDesc → Option Extern → Bool
root_may_import (desc.Instance index) meaning = option_map_or is_of_types meaning true
root_may_import asked meaning = false
