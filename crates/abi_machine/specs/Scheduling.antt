-- Turns of the scheduler (Component Model, Concurrency.md, "Summary"): where no task runs, the script's next item is taken or an able task
-- goes on. One of several alternatives is chosen, the item first, then tasks by their numbers.
use Rattle.std.specs.Prelude.{ℕ, ◌+◌, nat_eq, Bool, true, false, not, ◌&&◌, ◌||◌, if◌then◌else◌, List, [], ◌∷◌, map, take, length, Option, Some, None, Result, Ok}
use Rattle.std.specs.List.{slice_get, find, count_by}
use Rattle.syntax_trees.specs.declared.types.ValType.{ValType}
use Rattle.syntax_trees.specs.declared.value.Value.{Value}
use Rattle.entry_gate.specs.Callbacks.{callback_of}
use Rattle.entry_gate.specs.declared.callback.BadCode.{BadCode}
use Rattle.entry_gate.specs.declared.callback.Next.{Next}
use Rattle.entry_gate.specs.declared.callback.Next.TheVariants as next
use Rattle.waitables.specs.Sets.{is_none}
use Rattle.tasks.specs.Tasks.{is_asked, is_cancellable, may_cancel}
use Rattle.stream_ends.specs.Ends.{is_pending}
use Rattle.comp_graph.specs.Graph.{Graph, Lifted, func_named}
use Rattle.trace_labels.specs.declared.label.Label.TheVariants as line
use Rattle.trace_labels.specs.declared.typed.TypedValue.{TypedValue}
use Rattle.abi_machine.specs.declared.run_end.RunEnd.{RunEnd}
use Rattle.abi_machine.specs.declared.run_end.RunEnd.TheVariants.{Done, Deadlock}
use Rattle.script_reader.specs.declared.script.Call.{Call}
use Rattle.script_reader.specs.declared.script.Item.{Item}
use Rattle.script_reader.specs.declared.script.Item.TheVariants as item
use Rattle.script_reader.specs.Script.{Script}
use Rattle.abi_machine.specs.Control.{Free, Chosen, Resumes}
use Rattle.abi_machine.specs.World.{Func, Caller, Host, Wait, ForYield, ForSet, ForCall, ForCopy, ForCancel, TaskState, WaitsToEnter, InLoop, InBuiltin, Task, World}
use Rattle.abi_machine.specs.Edits.{with_control, item_taken, chained}
use Rattle.abi_machine.specs.Canons.{flag_at}
use Rattle.abi_machine.specs.Reading.{task_at, acting, func_of, kind_of, with_numbers, numbers_of, unfinished}
use Rattle.abi_machine.specs.Counting.{passes, blocked_at_of, task_view, has_resolved, end_of, ready}
use Rattle.abi_machine.specs.Gate.{is_entry_free, may_go_in}
use Rattle.abi_machine.specs.Finding.{found_subtask, set_number, found_end}
use Rattle.abi_machine.specs.Turn.{Turn, Steps, Ends, silent, behind, given, charged}
use Rattle.abi_machine.specs.Choosing.{chosen}
use Rattle.abi_machine.specs.Calling.{begun}
use Rattle.abi_machine.specs.Cancelling.{cancelled_turn}

-- Whether a blocked task can go on.

-- a member of a set is ready
abbrev pub is_some_ready : World → ℕ → ℕ → Bool
is_some_ready w i index = passes (λ set. not (is_none (ready w i set))) (set_number w i index)

abbrev pub is_task_resolved : World → ℕ → Bool
is_task_resolved w t = passes has_resolved (task_at w t)

-- in a built-in
abbrev pub wait_is_over : Graph → World → ℕ → Task → ℕ → Wait → Bool
wait_is_over g w i task number ForYield = true
wait_is_over g w i task number (ForSet index) =
    is_some_ready w i index
    || (is_asked task.cancellation && is_cancellable (is_entry_free w i) (kind_of task) (blocked_at_of (ForSet index)) (flag_at g number))
wait_is_over g w i task number (ForCall callee) = is_task_resolved w callee
wait_is_over g w i task number (ForCopy index) = passes (λ e. is_pending (end_of w e)) (found_end w i index)
wait_is_over g w i task number (ForCancel index) = passes (is_task_resolved w) (found_subtask w i index)

-- in its loop, where no task holds exclusive entry
abbrev pub loop_is_over : World → ℕ → Task → Result Next BadCode → Bool
loop_is_over w i task (Ok next.Yield) = true
loop_is_over w i task (Ok (next.Wait index)) = is_some_ready w i index || is_asked task.cancellation
loop_is_over w i task (Ok (next.Poll index)) = true
loop_is_over w i task word = false

abbrev pub is_able_in : Graph → World → ℕ → Task → TaskState → Bool
is_able_in g w i task WaitsToEnter = may_go_in w i task
is_able_in g w i task (InLoop word) = is_entry_free w i && loop_is_over w i task (callback_of word)
is_able_in g w i task (InBuiltin number words wait) = wait_is_over g w i task number wait
is_able_in g w i task state = false

abbrev pub is_able : Graph → World → Task → Bool
is_able g w task = passes (λ f. is_able_in g w f.instance task task.state) (func_of task.callee)

-- the able tasks, by their numbers
abbrev pub able : Graph → World → List ℕ
able g w = numbers_of (is_able g w) (with_numbers 0 w.tasks)

-- What may be done: an item is taken, or a task goes on.
pub data Alternative : Type 0 where
  Takes : Item → Alternative
  GoesOn : ℕ → Alternative

abbrev pub item_first : Option Item → List Alternative → List Alternative
item_first None others = others
item_first (Some first) others = Takes first ∷ others

abbrev pub alternatives : Graph → Script → World → List Alternative
alternatives g s w = item_first (slice_get s.items w.taken) (map GoesOn (able g w))

-- Items.

-- values with their types, as many as both
abbrev pub typed : List ValType → List Value → List TypedValue
typed [] values = []
typed (type ∷ types) [] = []
typed (type ∷ types) (v ∷ values) = record { value = v; val_type = type } ∷ typed types values

abbrev pub arguments_typed : Lifted → List Value → List TypedValue
arguments_typed f values = typed (map (λ p. p.val_type) f.func_type.params) values

-- Calls are counted from 1.
abbrev pub is_call : Item → Bool
is_call (item.Call call) = true
is_call (item.Cancel number) = false

abbrev pub calls_taken : Script → World → ℕ
calls_taken s w = count_by is_call (take w.taken s.items)

unfoldable pub call_taken : ℕ → Call → Lifted → World → Turn
call_taken number call f w =
    Steps (line.Take number (length w.tasks) call.name (arguments_typed f call.values) ∷ []) (begun (Func f) (Host number call.values) (item_taken w))

-- the task that the script's call of this number made, with its number
abbrev pub is_call_of : ℕ → Caller → Bool
is_call_of call (Host number values) = nat_eq number call
is_call_of call caller = false

abbrev pub task_of_call : ℕ → World → Option (ℕ × Task)
task_of_call call w = find (λ x. is_call_of call x.1.caller) (with_numbers 0 w.tasks)

-- A task that has resolved, or whose cancellation is asked already, is left alone.
unfoldable pub cancel_taken : Graph → ℕ → ℕ × Task → World → Turn
cancel_taken g call found w =
    behind (line.Cancel call ∷ [])
    (if may_cancel (task_view g w found.0 found.1) then cancelled_turn g found.0 found.1 Free w else silent Free w)

unfoldable pub item_turn : Graph → Script → Item → World → Turn
item_turn g s (item.Call call) w = given (func_named g call.name) (λ f. call_taken (calls_taken s w + 1) call f w)
item_turn g s (item.Cancel call) w = given (task_of_call call w) (λ found. cancel_taken g call found (item_taken w))

-- A task goes on, by its line.
unfoldable pub gone : ℕ → World → Turn
gone t w = Steps (line.Go t ∷ []) (with_control Resumes w)

unfoldable pub going_turn : Script → World → Turn
going_turn s w = given (acting w) (λ a. charged true s w (λ v. gone a.0 v))

-- Each alternative costs a unit.
unfoldable pub alternative_turn : Graph → Script → Alternative → World → Turn
alternative_turn g s (Takes first) w = charged true s w (λ v. item_turn g s first v)
alternative_turn g s (GoesOn t) w = charged true s w (λ v. gone t (chained t v))

-- Where nothing may be done, all is done if each task has exited.
abbrev pub end_by : List ℕ → RunEnd
end_by [] = Done
end_by (t ∷ tasks) = Deadlock (t ∷ tasks)

unfoldable pub one_of : Graph → Script → List Alternative → World → Turn
one_of g s [] w = Ends (end_by (unfinished w))
one_of g s (a ∷ []) w = alternative_turn g s a w
one_of g s (a ∷ other ∷ others) w = chosen s (length (a ∷ other ∷ others)) Chosen w

unfoldable pub free_turn : Graph → Script → World → Turn
free_turn g s w = one_of g s (alternatives g s w) w

-- The alternative of this number was chosen.
unfoldable pub chosen_turn : Graph → Script → ℕ → World → Turn
chosen_turn g s k w = given (slice_get (alternatives g s w) k) (λ a. alternative_turn g s a w)
