-- How arguments, results and elements are passed (Component Model, CanonicalABI.md, "Flattening", "Flat Lifting" and "Flat Lowering",
-- `canon task.return`, `canon stream.read`): in core values, or in memory, where they have too many core values or where elements are
-- copied. Arguments are passed as one tuple.
use Rattle.std.specs.Prelude.{ℕ, nat_lt, Bool, ◌||◌, slice_index, if◌then◌else◌, List, [], ◌∷◌, length, Option, Some}
use Rattle.syntax_trees.specs.declared.types.ValType.{ValType}
use Rattle.syntax_trees.specs.declared.types.FuncType.{FuncType}
use Rattle.syntax_trees.specs.declared.value.Value.{Value}
use Rattle.syntax_trees.specs.Flat.{flat_params, flat_payload}
use Rattle.value_lift.specs.declared.counting.LiftOf.TheVariants as whole
use Rattle.value_lift.specs.Lifting.{most}
use Rattle.comp_graph.specs.Needs.{flat_param_limit, flat_result_limit}
pub use Rattle.comp_graph.specs.Passed.{params_type}
use Rattle.abi_machine.specs.LiftingOver.{load_by, load_list_by, lift_flat_by}
use Rattle.abi_machine.specs.LoweringOver.{New, Plan, stored, all_stored, flat_lowered, placed}
use Rattle.abi_machine.specs.World.{World}
use Rattle.abi_machine.specs.Lifting.{Came, by_world, nothing_lifted}

-- how many core values arguments have at most that are passed as such: fewer where the caller does not wait
abbrev pub flat_async_param_limit : ℕ
flat_async_param_limit = 4

abbrev pub passed_limit : Bool → ℕ
passed_limit is_async = if is_async then flat_async_param_limit else flat_param_limit

-- whether parameters, and a result, have more core values than these
abbrev pub params_pass : ℕ → FuncType → Bool
params_pass limit f = nat_lt limit (length (flat_params f))

abbrev pub result_passes : ℕ → Option ValType → Bool
result_passes limit result = nat_lt limit (length (flat_payload result))

-- The arguments, over a memory of these bytes and the table of an instance, of the words that are passed for the call of a task: they
-- stand in them, or at the place that is the first.
unfoldable pub arguments_lifted : ℕ → ℕ → Bool → FuncType → List ℕ → List ℕ → World → Came Value
arguments_lifted i callee is_async f bytes words w =
    if params_pass (passed_limit is_async) f
    then load_by (by_world i callee) (params_type f) bytes (slice_index words 0) (nothing_lifted (most whole.Arguments) w)
    else lift_flat_by (by_world i callee) (params_type f) bytes words (nothing_lifted (most whole.Arguments) w)

-- A result of this type of a task, of the words with which its core function ended, or with which `task.return` is called: it stands in
-- them, or at the place that is the first, where it has more core values than these.
unfoldable pub result_lifted : ℕ → ℕ → ℕ → ValType → List ℕ → List ℕ → World → Came Value
result_lifted i t limit type bytes words w =
    if result_passes limit (Some type)
    then load_by (by_world i t) type bytes (slice_index words 0) (nothing_lifted (most whole.Value) w)
    else lift_flat_by (by_world i t) type bytes words (nothing_lifted (most whole.Value) w)

-- Elements one after the other at a place.
unfoldable pub elements_lifted : ℕ → ℕ → ValType → List ℕ → ℕ → ℕ → World → Came (List Value)
elements_lifted i t type bytes place count w =
    load_list_by (by_world i t) type bytes place count (nothing_lifted (most whole.Value) w)

-- The plans by which these are lowered, over a way to make entries: arguments as core values, or at a new place.
unfoldable pub arguments_plan : (New → (ℕ → Plan) → Plan) → FuncType → Value → Plan
arguments_plan enter f v =
    if params_pass flat_param_limit f then placed enter (params_type f) v else flat_lowered enter (params_type f) v

-- A result as core values, or at the place that is the last of the words that the caller passed. A caller that does not wait passes a
-- place for every result.
abbrev pub last_of : List ℕ → ℕ
last_of [] = 0
last_of (word ∷ []) = word
last_of (word ∷ other ∷ words) = last_of (other ∷ words)

unfoldable pub result_plan : (New → (ℕ → Plan) → Plan) → Bool → ValType → Value → List ℕ → Plan
result_plan enter is_async type v words =
    if is_async || result_passes flat_result_limit (Some type) then stored enter type v (last_of words) else flat_lowered enter type v

-- Elements one after the other from a place on.
unfoldable pub elements_plan : (New → (ℕ → Plan) → Plan) → ValType → List Value → ℕ → Plan
elements_plan enter type all place = all_stored enter type all place
