-- What a lift and a lower need of core definitions (Component Model, CanonicalABI.md, "Flattening", `canon lift` and `canon
-- lower`): the types of core functions, and when a memory is used and a function that gives places in it.
use Rattle.std.specs.Prelude.{ℕ, Bool, ◌||◌, nat_lt, if◌then◌else◌, List, [], ◌∷◌, length, map, replicate, Option, is_some}
use Rattle.syntax_trees.specs.declared.core_type.CoreType.{CoreType}
use Rattle.syntax_trees.specs.declared.core_type.CoreType.TheVariants as flat_type
use Rattle.syntax_trees.specs.declared.core_type.CoreFunc.{CoreFunc}
use Rattle.syntax_trees.specs.declared.core_type.FlatKind.{FlatKind}
use Rattle.syntax_trees.specs.declared.core_type.FlatKind.TheVariants.{SyncLift, AsyncLift, CallbackLift, SyncLower, AsyncLower}
use Rattle.syntax_trees.specs.declared.types.FuncType.{FuncType}
use Rattle.syntax_trees.specs.declared.types.ValType as value
use Rattle.syntax_trees.specs.Ends.{some_true}
use Rattle.syntax_trees.specs.Flat.{flat_params, flat_payload, flat_func, at_most}
use Rattle.comp_graph.specs.declared.graph.Options.{Options}
use Rattle.laid_types.specs.Lists.{has_list, held_list}
use Rattle.syntax_trees.specs.declared.module_types.ValType.{ValType}
use Rattle.syntax_trees.specs.declared.module_types.ValType.TheVariants.{I32, I64}
use Rattle.syntax_trees.specs.declared.module_types.FuncType as core

-- the type of core values
abbrev pub core_val : CoreType → ValType
core_val flat_type.I32 = I32
core_val flat_type.I64 = I64

abbrev pub core_func : CoreFunc → core.FuncType
core_func f = record { params = map core_val f.params; results = map core_val f.results }

-- how a function is lifted, by its options: without `async`; with it and a callback; with it alone
abbrev pub lift_kind : Options → FlatKind
lift_kind options = if options.is_async then (if is_some options.callback then CallbackLift else AsyncLift) else SyncLift

-- the type of the core function that is lifted with these options to a function of a type
abbrev pub lift_type : Options → FuncType → core.FuncType
lift_type options f = core_func (flat_func (lift_kind options) f)

-- how a function is lowered, with `async` or without
abbrev pub lower_kind : Bool → FlatKind
lower_kind is_async = if is_async then AsyncLower else SyncLower

-- the type of the core function to which a function of a type is lowered
abbrev pub lower_type : Bool → FuncType → core.FuncType
lower_type is_async f = core_func (flat_func (lower_kind is_async) f)

-- Types of core functions that take so many i32; `word` is an i32 that is given back.
abbrev pub taking : ℕ → List ValType → core.FuncType
taking count results = record { params = replicate count I32; results = results }

abbrev pub word : List ValType
word = I32 ∷ []

-- the type of a callback: of a code, an index and a payload, to the next code
abbrev pub callback_type : core.FuncType
callback_type = taking 3 word

-- the type of a destructor: of the representation
abbrev pub destructor_type : core.FuncType
destructor_type = taking 1 []

-- the type of a function that takes a result: in core values, or as one place where they are more than 16
abbrev pub task_return_type : Option value.ValType → core.FuncType
task_return_type result = record { params = map core_val (at_most 16 (flat_payload result)); results = [] }

-- the type of the core function that is lifted without `async` to a function of a type
abbrev pub lifted_type : FuncType → core.FuncType
lifted_type f = core_func (flat_func SyncLift f)

-- the type of the core function to which a function of a type is lowered without `async`
abbrev pub lowered_type : FuncType → core.FuncType
lowered_type f = core_func (flat_func SyncLower f)

-- the type of the function that gives places: of the place, the size, the alignment and the new size, to the new place
abbrev pub realloc_type : core.FuncType
realloc_type = record { params = I32 ∷ I32 ∷ I32 ∷ I32 ∷ []; results = I32 ∷ [] }

-- the type of the function that is called when the result was lifted: it takes what the lifted core function gave
abbrev pub post_return_type : FuncType → core.FuncType
post_return_type f = record { params = (lifted_type f).results; results = [] }

-- how many core values are passed as core parameters, and as core results; more are passed in memory
abbrev pub flat_param_limit : ℕ
flat_param_limit = 16

abbrev pub flat_result_limit : ℕ
flat_result_limit = 1

-- whether parameters hold a string or a list
abbrev pub hold_list : FuncType → Bool
hold_list f = some_true (map (λ p. has_list p.val_type) f.params)

-- Whether a lift or a lower without `async` passes something in memory: the parameters, the result, or what they hold.
abbrev pub needs_memory : FuncType → Bool
needs_memory f =
    nat_lt flat_param_limit (length (flat_params f)) || nat_lt flat_result_limit (length (flat_payload f.result))
    || hold_list f || held_list f.result

-- Whether a lift asks for places in memory: for the parameters, or for what they hold.
abbrev pub lift_needs_realloc : FuncType → Bool
lift_needs_realloc f = nat_lt flat_param_limit (length (flat_params f)) || hold_list f

-- Whether a lower asks for places in memory: for what the result holds. The place of the result itself is given by the caller.
abbrev pub lower_needs_realloc : FuncType → Bool
lower_needs_realloc f = held_list f.result

-- Whether a lift passes something in memory. One with `async` passes no result.
abbrev pub lift_needs_memory : Bool → FuncType → Bool
lift_needs_memory is_async f = if is_async then lift_needs_realloc f else needs_memory f

-- Whether a lower passes something in memory. One with `async` passes four core values of parameters, and no result as a core value.
abbrev pub lower_needs_memory : Bool → FuncType → Bool
lower_needs_memory is_async f =
    nat_lt (if is_async then 4 else flat_param_limit) (length (flat_params f)) || nat_lt (if is_async then 0 else flat_result_limit) (length (flat_payload f.result))
    || hold_list f || held_list f.result

-- Whether `task.return` passes something in memory: the result, or what it holds.
abbrev pub task_return_needs_memory : Option value.ValType → Bool
task_return_needs_memory result = nat_lt flat_param_limit (length (flat_payload result)) || held_list result
