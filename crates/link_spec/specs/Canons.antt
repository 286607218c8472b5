-- The options of canonical functions (Component Model, Explainer.md, "Canonical Definitions"; CanonicalABI.md, "Canonical ABI
-- Options"), when a core item can be lifted with them, and when they give what a lower or a built-in uses. An option stands at most once.
use Rattle.std.specs.Prelude.{◌≡◌, ◌≤◌, ℕ, Bool, true, false, not, ◌&&◌, ◌||◌, nat_lt, nat_le, is_some, List, [], ◌∷◌, length, filter, Option, Some, None, IfSome, IsSome}
use Rattle.std.specs.Option.{option_and_then, option_map_or}
use Rattle.std.specs.List.{slice_get}
use Rattle.syntax_trees.specs.declared.types.FuncType.{FuncType}
use Rattle.syntax_trees.specs.declared.module_types.FuncType as core
use Rattle.comp_graph.specs.declared.graph.Options.{Options}
use Rattle.comp_graph.specs.Closed.{first_of}
use Rattle.comp_graph.specs.CoreItems.{CoreItem, core_func_of, core_memory_of, func_part}
use Rattle.comp_graph.specs.Needs.{lift_type, realloc_type, callback_type, post_return_type, lift_needs_memory, lift_needs_realloc, lower_needs_memory, lower_needs_realloc}
use Rattle.comp_tree.specs.declared.items.CanonOption.{CanonOption}
use Rattle.comp_tree.specs.declared.items.CanonOption.TheVariants as option
use Rattle.link_spec.specs.Spaces.{Spaces}
use Rattle.link_spec.specs.Tests.{same_core_func}

-- Kinds of options.

abbrev pub is_utf8 : CanonOption → Bool
is_utf8 option.Utf8 = true
is_utf8 (option.Memory index) = false
is_utf8 (option.Realloc index) = false
is_utf8 (option.PostReturn index) = false
is_utf8 option.Async = false
is_utf8 (option.Callback index) = false

abbrev pub is_async : CanonOption → Bool
is_async option.Utf8 = false
is_async (option.Memory index) = false
is_async (option.Realloc index) = false
is_async (option.PostReturn index) = false
is_async option.Async = true
is_async (option.Callback index) = false

-- the index that an option of a kind has
abbrev pub memory_index : CanonOption → Option ℕ
memory_index option.Utf8 = None
memory_index (option.Memory index) = Some index
memory_index (option.Realloc index) = None
memory_index (option.PostReturn index) = None
memory_index option.Async = None
memory_index (option.Callback index) = None

abbrev pub realloc_index : CanonOption → Option ℕ
realloc_index option.Utf8 = None
realloc_index (option.Memory index) = None
realloc_index (option.Realloc index) = Some index
realloc_index (option.PostReturn index) = None
realloc_index option.Async = None
realloc_index (option.Callback index) = None

abbrev pub post_return_index : CanonOption → Option ℕ
post_return_index option.Utf8 = None
post_return_index (option.Memory index) = None
post_return_index (option.Realloc index) = None
post_return_index (option.PostReturn index) = Some index
post_return_index option.Async = None
post_return_index (option.Callback index) = None

abbrev pub callback_index : CanonOption → Option ℕ
callback_index option.Utf8 = None
callback_index (option.Memory index) = None
callback_index (option.Realloc index) = None
callback_index (option.PostReturn index) = None
callback_index option.Async = None
callback_index (option.Callback index) = Some index

-- how many options pass a test
abbrev pub count_of : (CanonOption → Bool) → List CanonOption → ℕ
count_of p options = length (filter p options)

-- whether one is `async`
abbrev pub has_async : List CanonOption → Bool
has_async options = nat_lt 0 (count_of is_async options)

-- No option stands twice.
pub record StandOnce (options : List CanonOption) : Type 0 where
  pub utf8 : count_of is_utf8 options ≤ 1
  pub memory : count_of (λ o. is_some (memory_index o)) options ≤ 1
  pub realloc : count_of (λ o. is_some (realloc_index o)) options ≤ 1
  pub post_return : count_of (λ o. is_some (post_return_index o)) options ≤ 1
  pub asynchronous : count_of is_async options ≤ 1
  pub callback : count_of (λ o. is_some (callback_index o)) options ≤ 1

-- What options name.

-- the first index that an option has
abbrev pub first_index : (CanonOption → Option ℕ) → List CanonOption → Option ℕ
first_index f [] = None
first_index f (o ∷ options) = first_of (f o) (first_index f options)

-- what an option names is there, or is not
abbrev pub IsOptionThere : Spaces → CanonOption → Type 0
IsOptionThere s o =
    IfSome (memory_index o) (λ index. IsSome (slice_get s.core_memories index))
    × IfSome (realloc_index o) (λ index. IsSome (slice_get s.core_funcs index))
    × IfSome (post_return_index o) (λ index. IsSome (slice_get s.core_funcs index))
    × IfSome (callback_index o) (λ index. IsSome (slice_get s.core_funcs index))

-- what the options of a canonical function give it, and whether one is `async`
pub record Given : Type 0 where
  pub memory : Option CoreItem
  pub realloc : Option CoreItem
  pub post_return : Option CoreItem
  pub callback : Option CoreItem
  pub is_async : Bool

abbrev pub given_by : Spaces → List CanonOption → Given
given_by s options = record {
  memory = option_and_then (slice_get s.core_memories) (first_index memory_index options);
  realloc = option_and_then (slice_get s.core_funcs) (first_index realloc_index options);
  post_return = option_and_then (slice_get s.core_funcs) (first_index post_return_index options);
  callback = option_and_then (slice_get s.core_funcs) (first_index callback_index options);
  is_async = has_async options;
}

-- the same without types
abbrev pub options_of : Given → Options
options_of given = record {
  memory = option_and_then core_memory_of given.memory;
  realloc = option_and_then core_func_of given.realloc;
  post_return = option_and_then core_func_of given.post_return;
  callback = option_and_then core_func_of given.callback;
  is_async = given.is_async;
}

-- Lifts.

-- a core item is a function of a type
abbrev pub IsOfCoreType : core.FuncType → CoreItem → Type 0
IsOfCoreType type item = func_part item ≡ Some type

-- A core item can be lifted to a function of a type, with what is given: the core functions have the types that they need, by how the
-- function is lifted; none is called when a result was lifted that `task.return` gives, and only with `async` one is called with
-- events; and where something is passed in memory, or asks for a place in it, the memory is given, or the function that gives places.
pub record CanBeLifted (type : FuncType) (item : CoreItem) (given : Given) : Type 0 where
  pub core : IsOfCoreType (lift_type (options_of given) type) item
  pub realloc : IfSome given.realloc (IsOfCoreType realloc_type)
  pub post_return : IfSome given.post_return (IsOfCoreType (post_return_type type))
  pub callback : IfSome given.callback (IsOfCoreType callback_type)
  pub returns : IsSome given.post_return → given.is_async ≡ false
  pub called_back : IsSome given.callback → given.is_async ≡ true
  pub memory_given : lift_needs_memory given.is_async type ≡ true → IsSome given.memory
  pub realloc_given : lift_needs_realloc type ≡ true → IsSome given.realloc

-- Uses.

-- What a lower or a built-in uses is given: the memory, where it uses one, and the function that gives places in it, which has its type
-- wherever it is given. No function is called when a result was lifted or with events.
pub record CanBeUsed (memory_used realloc_used : Bool) (given : Given) : Type 0 where
  pub realloc : IfSome given.realloc (IsOfCoreType realloc_type)
  pub post_return : given.post_return ≡ None
  pub callback : given.callback ≡ None
  pub memory_given : memory_used ≡ true → IsSome given.memory
  pub realloc_given : realloc_used ≡ true → IsSome given.realloc

-- A function of a type can be lowered with what is given: the memory is, where something is passed in memory, and the function that gives
-- places, where what the result holds asks for a place in it.
abbrev pub CanBeLowered : FuncType → Given → Type 0
CanBeLowered type given = CanBeUsed (lower_needs_memory given.is_async type) (lower_needs_realloc type) given

-- The same as tests.

abbrev pub at_most_once : (CanonOption → Bool) → List CanonOption → Bool
at_most_once p options = nat_le (count_of p options) 1

abbrev pub stand_once : List CanonOption → Bool
stand_once options =
    at_most_once is_utf8 options && at_most_once (λ o. is_some (memory_index o)) options
    && at_most_once (λ o. is_some (realloc_index o)) options && at_most_once (λ o. is_some (post_return_index o)) options
    && at_most_once is_async options && at_most_once (λ o. is_some (callback_index o)) options

abbrev pub is_index_there : {A : Type 0} → List A → Option ℕ → Bool
is_index_there xs index = option_map_or (λ i. nat_lt i (length xs)) index true

abbrev pub is_option_there : Spaces → CanonOption → Bool
is_option_there s o =
    is_index_there s.core_memories (memory_index o) && is_index_there s.core_funcs (realloc_index o)
    && is_index_there s.core_funcs (post_return_index o) && is_index_there s.core_funcs (callback_index o)

abbrev pub is_of_core_type : core.FuncType → CoreItem → Bool
is_of_core_type type item = option_map_or (λ other. same_core_func other type) (func_part item) false

-- core functions of their types
abbrev pub are_of_types : FuncType → CoreItem → Given → Bool
are_of_types type item given =
    is_of_core_type (lift_type (options_of given) type) item
    && option_map_or (is_of_core_type realloc_type) given.realloc true
    && option_map_or (is_of_core_type (post_return_type type)) given.post_return true
    && option_map_or (is_of_core_type callback_type) given.callback true

-- a post-return without `async` alone, and a callback with it alone
abbrev pub are_of_kind : Given → Bool
are_of_kind given = (not (is_some given.post_return) || not given.is_async) && (not (is_some given.callback) || given.is_async)

abbrev pub can_be_lifted : FuncType → CoreItem → Given → Bool
can_be_lifted type item given =
    are_of_types type item given
    && are_of_kind given
    && (not (lift_needs_memory given.is_async type) || is_some given.memory)
    && (not (lift_needs_realloc type) || is_some given.realloc)

abbrev pub can_be_used : Bool → Bool → Given → Bool
can_be_used memory_used realloc_used given =
    option_map_or (is_of_core_type realloc_type) given.realloc true
    && not (is_some given.post_return)
    && not (is_some given.callback)
    && (not memory_used || is_some given.memory)
    && (not realloc_used || is_some given.realloc)

abbrev pub can_be_lowered : FuncType → Given → Bool
can_be_lowered type given = can_be_used (lower_needs_memory given.is_async type) (lower_needs_realloc type) given
