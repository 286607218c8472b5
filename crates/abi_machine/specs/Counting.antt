-- What is counted and computed of worlds (Component Model, CanonicalABI.md, "Subtask State", "Task State", "Waitable Set State",
-- "Stream State"; Concurrency.md, "Waitables and Waitable Sets"): lends and borrows, states of subtasks, and events.
use Rattle.std.specs.Prelude.{ℕ, Bool, false, not, ◌&&◌, nat_eq, List, filter, Option, Some, None, Result, Ok, Err}
use Rattle.std.specs.List.{list_any, count_by, sum_by, range_with_len}
use Rattle.std.specs.Option.{option_map}
use Rattle.builtin_kinds.specs.declared.EndKind.{EndKind}
use Rattle.builtin_kinds.specs.declared.EndKind.TheVariants as end_kind
use Rattle.entry_gate.specs.Callbacks.{callback_of}
use Rattle.entry_gate.specs.declared.callback.BadCode.{BadCode}
use Rattle.entry_gate.specs.declared.callback.Next.{Next}
use Rattle.entry_gate.specs.declared.callback.Next.TheVariants as next
use Rattle.handle_table.specs.History.{slots_of, greatest}
use Rattle.res_handles.specs.declared.handle.Ownership.{Ownership}
use Rattle.res_handles.specs.declared.handle.Ownership.TheVariants.{Own, Borrow}
use Rattle.res_handles.specs.declared.entry.EntryView.{EntryView}
use Rattle.res_handles.specs.declared.entry.EntryView.TheVariants as seen
use Rattle.stream_ends.specs.declared.side.Side.{Side}
use Rattle.stream_ends.specs.declared.side.Side.TheVariants.{Reader, Writer}
use Rattle.stream_ends.specs.declared.stream_end.End.{End}
use Rattle.stream_ends.specs.Ends.{no_end, end_at, is_idle, is_pending}
use Rattle.stream_ends.specs.Ends as stream
use Rattle.future_ends.specs.Meeting as future
use Rattle.waitables.specs.Sets.{ready_of}
use Rattle.tasks.specs.declared.event.BlockedAt.{BlockedAt}
use Rattle.tasks.specs.declared.event.BlockedAt.TheVariants as blocked_at
use Rattle.tasks.specs.declared.phase.Caller as views
use Rattle.tasks.specs.declared.phase.Caller.TheVariants as caller
use Rattle.tasks.specs.declared.phase.Phase.{Phase}
use Rattle.tasks.specs.declared.phase.Phase.TheVariants as phase
use Rattle.tasks.specs.declared.subtask_state.SubtaskState.{SubtaskState}
use Rattle.tasks.specs.Views.{TaskView}
use Rattle.tasks.specs.Tasks.{resolved_state}
use Rattle.tasks.specs.Subtasks.{code_of, is_over, has_event}
use Rattle.comp_graph.specs.Graph.{Graph}
use Rattle.abi_machine.specs.Control.{EndRef}
use Rattle.abi_machine.specs.World.{Entry, OwnHandle, BorrowHandle, OfSubtask, OfSet, OfEnd, Subtask, Caller, Nobody, Host, Guest, Wait, ForYield, ForSet, ForCall, ForCopy, ForCancel, TaskState, New, Acting, AfterCall, AfterCancel, Begins, WaitsToEnter, InLoop, InBuiltin, Exited, Task, Channel, World}
use Rattle.abi_machine.specs.Edits.{set_view, subtask_view}
use Rattle.abi_machine.specs.Canons.{flag_at}
use Rattle.abi_machine.specs.Reading.{table_of, entry_at, members_of, channel_at, task_at, kind_of, runs_in, subtask_of}

-- Whether a task that is there passes a test.
abbrev pub passes : {A : Type 0} → (A → Bool) → Option A → Bool
passes test None = false
passes test (Some x) = test x

-- The lends of a handle: how often it is lent for calls of tasks of its instance.
abbrev pub lends_for : (ℕ → Bool) → ℕ → Option Subtask → ℕ
lends_for is_here index None = 0
lends_for is_here index (Some subtask) = count_by (λ handle. is_here subtask.by && nat_eq handle index) subtask.lends

abbrev pub lends_of : World → ℕ → ℕ → ℕ
lends_of w i index = sum_by (λ task. lends_for (λ t. passes (runs_in i) (task_at w t)) index (subtask_of task.caller)) w.tasks

-- the borrows of a task: the live borrow handles that name it
abbrev pub borrows_for : ℕ → Option Entry → Bool
borrows_for t (Some (BorrowHandle resource rep task)) = nat_eq task t
borrows_for t _ = false

abbrev pub borrows_of : World → ℕ → ℕ
borrows_of w t = sum_by (λ inst. count_by (borrows_for t) (slots_of inst.table)) w.insts

-- Tasks: where one waits, how far it is, and what is told of it.
abbrev pub blocked_at_of : Wait → BlockedAt
blocked_at_of ForYield = blocked_at.Yield
blocked_at_of (ForSet index) = blocked_at.Set index
blocked_at_of (ForCall callee) = blocked_at.Call callee
blocked_at_of (ForCopy index) = blocked_at.Copy index
blocked_at_of (ForCancel index) = blocked_at.Cancel index

abbrev pub phase_of : (ℕ → Bool) → TaskState → Phase
phase_of flag New = phase.New
phase_of flag Acting = phase.Acting
phase_of flag (AfterCall callee number words) = phase.Acting
phase_of flag (AfterCancel callee number words) = phase.Acting
phase_of flag (Begins n) = phase.Acting
phase_of flag WaitsToEnter = phase.Blocked blocked_at.Entry false
phase_of flag (InLoop word) = phase.Blocked (blocked_at.Loop word) false
phase_of flag (InBuiltin number words wait) = phase.Blocked (blocked_at_of wait) (flag number)
phase_of flag Exited = phase.Exited

abbrev pub caller_view : Caller → views.Caller
caller_view Nobody = caller.Nobody
caller_view (Host call values) = caller.Host call
caller_view (Guest subtask) = caller.Guest subtask.by

abbrev pub task_view : Graph → World → ℕ → Task → TaskView
task_view g w t task = record {
  kind = kind_of task;
  caller = caller_view task.caller;
  phase = phase_of (flag_at g) task.state;
  resolution = task.resolution;
  cancellation = task.cancellation;
  borrows = borrows_of w t;
}

-- the state of the subtask that a task is for its caller, its number, and whether the task has resolved
abbrev pub subtask_state : Task → SubtaskState
subtask_state task = resolved_state task.cancellation task.resolution (phase_of (λ number. false) task.state)

abbrev pub state_of : Task → ℕ
state_of task = code_of (subtask_state task)

abbrev pub has_resolved : Task → Bool
has_resolved task = is_over (subtask_state task)

-- Ends: one of a stream or a future, its event and the payload of what is told of it.
abbrev pub channel_end : Side → Option Channel → End
channel_end side None = no_end
channel_end side (Some c) = end_at side c.ends.view

abbrev pub end_of : World → EndRef → End
end_of w e = channel_end e.side (channel_at w e.kind e.number)

abbrev pub payload_by : EndKind → End → ℕ
payload_by end_kind.Stream e = stream.told_payload e.copy
payload_by end_kind.Future e = future.told_payload e.copy

abbrev pub payload_of : World → EndRef → ℕ
payload_of w e = payload_by e.kind (end_of w e)

-- Events: whether the subtask or the end at an index has one, and whether no task blocks on it directly.
abbrev pub subtask_has_event : ℕ → Task → Option Subtask → Bool
subtask_has_event callee task None = false
subtask_has_event callee task (Some subtask) = has_event (subtask_view callee (subtask_state task) subtask)

abbrev pub entry_has_event : World → Option Entry → Bool
entry_has_event w (Some (OfSubtask callee)) = passes (λ task. subtask_has_event callee task (subtask_of task.caller)) (task_at w callee)
entry_has_event w (Some (OfEnd e)) = is_pending (end_of w e)
entry_has_event w _ = false

-- A copy of an end and a cancelled subtask are waited for directly, by their index. A call that is waited for has no index.
abbrev pub waits_at : ℕ → TaskState → Bool
waits_at index (InBuiltin number words (ForCopy end)) = nat_eq end index
waits_at index (InBuiltin number words (ForCancel subtask)) = nat_eq subtask index
waits_at index _ = false

abbrev pub is_waited_for : World → ℕ → ℕ → Bool
is_waited_for w i index = list_any (λ task. runs_in i task && waits_at index task.state) w.tasks

abbrev pub has_news : World → ℕ → ℕ → Bool
has_news w i index = entry_has_event w (entry_at w i index) && not (is_waited_for w i index)

-- the indices of an instance that have news, and the ready members of a set, by the time of joining
abbrev pub news_of : World → ℕ → List ℕ
news_of w i = filter (has_news w i) (range_with_len 1 (greatest (table_of w i)))

abbrev pub ready : World → ℕ → ℕ → List ℕ
ready w i set = ready_of (news_of w i) (set_view (members_of w i set))

-- how many tasks of an instance wait on the set at an index: in their loop too
abbrev pub next_waits_on : ℕ → Next → Bool
next_waits_on index (next.Wait set) = nat_eq set index
next_waits_on index (next.Poll set) = nat_eq set index
next_waits_on index _ = false

abbrev pub word_waits_on : ℕ → Result Next BadCode → Bool
word_waits_on index (Ok next) = next_waits_on index next
word_waits_on index (Err why) = false

abbrev pub waits_on : ℕ → TaskState → Bool
waits_on index (InBuiltin number words (ForSet set)) = nat_eq set index
waits_on index (InLoop word) = word_waits_on index (callback_of word)
waits_on index _ = false

abbrev pub waiters_of : World → ℕ → ℕ → ℕ
waiters_of w i index = count_by (λ task. runs_in i task && waits_on index task.state) w.tasks

-- What the rules of handles see of the entry at an index.
abbrev pub end_view : World → EndRef → Side → EntryView
end_view w e Reader = seen.ReadableEnd (record { number = e.number; is_idle = is_idle (end_of w e) })
end_view w e Writer = seen.Other

abbrev pub handle_view : World → ℕ → ℕ → ℕ → ℕ → Ownership → EntryView
handle_view w i index resource rep ownership =
    seen.Handle (record { resource = resource; rep = rep; lends = lends_of w i index; ownership = ownership })

abbrev pub entry_view : World → ℕ → ℕ → Entry → EntryView
entry_view w i index (OwnHandle resource rep) = handle_view w i index resource rep Own
entry_view w i index (BorrowHandle resource rep task) = handle_view w i index resource rep (Borrow task)
entry_view w i index (OfSubtask callee) = seen.Other
entry_view w i index (OfSet set) = seen.Other
entry_view w i index (OfEnd e) = end_view w e e.side

abbrev pub view_at : World → ℕ → ℕ → Option EntryView
view_at w i index = option_map (entry_view w i index) (entry_at w i index)
