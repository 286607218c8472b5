-- Arguments and results (Component Model, CanonicalABI.md, "Flattening", `canon lift`, `canon lower`, `canon task.return`): arguments are passed as
-- one tuple, by the words of a call; a result by those with which a core function ended, or with which `task.return` is called.
use Rattle.std.specs.Prelude.{ℕ, Bool, if◌then◌else◌, List, Option, Some, None}
use Rattle.std.specs.List.{slice_get}
use Rattle.syntax_trees.specs.declared.types.ValType.{ValType, out-ValType}
use Rattle.syntax_trees.specs.declared.value.Value.{Value}
use Rattle.syntax_trees.specs.declared.value.Value.TheViews as value
use Rattle.laid_types.specs.Known.{Numbered, numbered_at}
use Rattle.value_lift.specs.Lifting.{tuple_case}
use Rattle.value_lift.specs.declared.counting.LiftOf.TheVariants as whole
use Rattle.comp_graph.specs.declared.graph.CanonFunc.{CanonFunc}
use Rattle.comp_graph.specs.Graph.{Graph}
use Rattle.graph_views.specs.Canons.{canon_at, instance_of, options_of, options_at}
use Rattle.graph_views.specs.Callees.{lift_of}
use Rattle.task_table.specs.declared.caller.Caller.{Caller}
use Rattle.task_table.specs.declared.caller.Caller.TheVariants.{Nobody, Host, Guest}
use Rattle.trace_labels.specs.declared.typed.TypedValue.{TypedValue}
use Rattle.programs.specs.declared.program.Program.{Program}
use Rattle.programs.specs.Program.{params_of, returned_of, value_of, host_values}
use Rattle.world_parts.specs.Held.{Held, Done, Gives, Stuck, after, given}
use Rattle.world_parts.specs.Places.{memory_of}
use Rattle.world_parts.specs.Slots.{instance_of as at_of, callee_of, words_of}
use Rattle.value_parts.specs.declared.lifting.Origin.{Origin}
use Rattle.value_parts.specs.Lifting.{value_lifted}

-- how many core values arguments have at most that are passed as such: fewer where the caller does not wait
abbrev pub passed_limit : Bool → ℕ
passed_limit is_async = if is_async then 4 else 16

-- those of the script's call of a number
abbrev pub host_arguments : Program → ℕ → Held → Done Value
host_arguments p call h = given (host_values p call) (λ values. Gives (value.Record values) h)

-- those that a task passed by a canonical function, of its instance and its memory
unfoldable pub arguments_passed : ℕ → CanonFunc → Numbered → List ℕ → Held → Done Value
arguments_passed t c type words h =
    if tuple_case (out-ValType type.val_type)
    then value_lifted (record { at = instance_of c; callee = t; memory = memory_of (options_of c) h }) whole.Arguments (passed_limit (options_of c).is_async) type words h
    else Stuck

abbrev pub guest_arguments : Graph → ℕ → ℕ → Numbered → List ℕ → Held → Done Value
guest_arguments g t number type words h = given (canon_at g number) (λ c. arguments_passed t c type words h)

abbrev pub arguments_by : Program → ℕ → Numbered → Caller → Held → Done Value
arguments_by p t type Nobody h = Stuck
arguments_by p t type (Host call) h = host_arguments p call h
arguments_by p t type (Guest called) h = guest_arguments p.graph.now t called.canon type called.words h

-- The arguments of a task, by who called it.
unfoldable pub arguments_lifted : Program → ℕ → Held → Done Value
arguments_lifted p t h =
    given (slice_get h.tasks t) (λ slot. given (params_of p slot.callee) (λ type. arguments_by p t type slot.caller h))

-- The result of a task with its type, where its function has one.
abbrev pub typed_result : ValType → Value → Option TypedValue
typed_result type v = Some (record { value = v; val_type = type })

unfoldable pub result_of_type : Origin → ℕ → Numbered → List ℕ → Held → Done (Option TypedValue)
result_of_type from limit type words h = after (value_lifted from whole.Value limit type words h) (λ v k. Gives (typed_result type.val_type v) k)

abbrev pub result_by : Program → ℕ → Option ℕ → Option ℕ → ℕ → List ℕ → Held → Done (Option TypedValue)
result_by p t None memory limit words h = Gives None h
result_by p t (Some number) memory limit words h =
    given (numbered_at p.types.now number) (λ type. after (at_of t h) (λ at k.
    result_of_type (record { at = at; callee = t; memory = memory }) limit type words k))

unfoldable pub result_lifted : Program → ℕ → Option ℕ → Option ℕ → ℕ → List ℕ → Held → Done (Option TypedValue)
result_lifted p t number memory limit words h = result_by p t number memory limit words h

-- That of a task that is lifted without `async`: one core value at most is passed as such.
unfoldable pub ended_lifted : Program → ℕ → List ℕ → Held → Done (Option TypedValue)
ended_lifted p t words h =
    after (callee_of t h) (λ callee k. given (lift_of p.graph.now callee) (λ f.
    result_lifted p t (returned_of p callee) (memory_of f.options k) 1 words k))

-- That of `task.return`, by the canonical function of this number.
unfoldable pub returned_lifted : Program → ℕ → ℕ → Held → Done (Option TypedValue)
returned_lifted p t canon h =
    after (words_of t h) (λ words k. result_lifted p t (value_of p canon) (memory_of (options_at p.graph.now canon) k) 16 words k)
