-- Tasks enter, block in their loops, go on and exit (Component Model, CanonicalABI.md, "Task State", `canon lift`, `unpack_callback_result`;
-- Concurrency.md, "Summary").
use Rattle.std.specs.Prelude.{ℕ, Bool, false, true, is_none, if◌then◌else◌, [], ◌∷◌, Option, Some, None, Result, Ok, Err}
use Rattle.entry_gate.specs.Callbacks.{callback_of}
use Rattle.entry_gate.specs.declared.callback.BadCode.{BadCode}
use Rattle.entry_gate.specs.declared.callback.Next.{Next}
use Rattle.entry_gate.specs.declared.callback.Next.TheVariants as next
use Rattle.tasks.specs.declared.event.BlockedAt.{BlockedAt}
use Rattle.tasks.specs.declared.event.BlockedAt.TheVariants as blocked_at
use Rattle.tasks.specs.declared.event.TaskEvent.TheVariants as event
use Rattle.tasks.specs.declared.phase.Phase.{Phase}
use Rattle.tasks.specs.declared.phase.Phase.TheVariants as phase
use Rattle.tasks.specs.declared.subtask_state.SubtaskState.TheVariants as state
use Rattle.task_table.specs.declared.errand.Errand.{Errand}
use Rattle.task_table.specs.declared.errand.Errand.TheVariants as errand
use Rattle.instances.specs.declared.entry.WorldEntry.{WorldEntry}
use Rattle.instances.specs.declared.entry.WorldEntry.TheVariants as entry
use Rattle.trace_labels.specs.declared.label.BlockReason.{BlockReason}
use Rattle.trace_labels.specs.declared.label.BlockReason.TheVariants as reason
use Rattle.trace_labels.specs.declared.label.Label.TheVariants as line
use Rattle.trace_labels.specs.declared.trap.TrapName.TheVariants as trap
use Rattle.world_parts.specs.declared.parts.Rest.TheVariants as rest
use Rattle.world_parts.specs.declared.parts.Receiver.TheVariants as receiver
use Rattle.world_parts.specs.declared.parts.Flow.{Flow}
use Rattle.world_parts.specs.declared.parts.Flow.TheVariants as flow
use Rattle.world_parts.specs.Held.{Held, Done, Gives, Traps, Stuck, after}
use Rattle.world_parts.specs.Feed.{told, at_rest, acting, left_chain, got}
use Rattle.world_parts.specs.Entries.{entry_found, subtask_known, set_found, set_known, set_waited_on, set_waited_off}
use Rattle.world_parts.specs.Gates.{may_enter, gate_waited, gate_unwaited, gate_entered, gate_given_up, gate_taken_back}
use Rattle.world_parts.specs.Slots.{instance_of, kind_of, phase_of, resolution_of, errand_of, asked, to_be_told, word_of, happens, errand_set, raised, awaited, result_found, closed, parked, unparked}
use Rattle.world_parts.specs.Calls.{blocked, subtask_told}
use Rattle.world_parts.specs.Plain.{yield_cancelled}
use Rattle.world_parts.specs.Events.{end_told}

-- A task that is new enters, or waits to.
unfoldable pub arrives : Held → Done Flow
arrives h =
    after (acting h) (λ t k. after (instance_of t k) (λ at l. after (kind_of t l) (λ kind m. after (may_enter at kind true m) (λ may n.
    if may then Gives flow.Enters n else
    after (gate_waited at n) (λ done o. after (parked t kind o) (λ done p. blocked t blocked_at.Entry false reason.Entry p))))))

-- A task enters: one that waited to waits no longer. Behind it its arguments are lifted.
abbrev pub waits_to_enter : Phase → Bool
waits_to_enter phase.New = false
waits_to_enter phase.Acting = false
waits_to_enter (phase.Blocked why flag) = true
waits_to_enter phase.Exited = false

abbrev pub unwaited : ℕ → ℕ → Held → Done (Unit {0})
unwaited t at h = after (gate_unwaited at h) (λ done k. unparked t k)

abbrev pub unwaited_if : Bool → ℕ → ℕ → Held → Done (Unit {0})
unwaited_if waits t at h = if waits then unwaited t at h else Gives tt h

unfoldable pub enters : ℕ → Held → Done (Unit {0})
enters t h =
    after (instance_of t h) (λ at k. after (kind_of t k) (λ kind l. after (phase_of t l) (λ far m. after (unwaited_if (waits_to_enter far) t at m) (λ done n.
    after (gate_entered at t kind n) (λ done o. after (happens t event.Enter o) (λ done p. after (raised t state.Started p) (λ done q.
    told (line.Enter t) q)))))))

-- A task exits. Control goes to the task before it, where there is one.
unfoldable pub leaves : Held → Done Flow
leaves h =
    after (acting h) (λ t k. after (instance_of t k) (λ at l. after (happens t event.Exit l) (λ done m. after (gate_given_up at t m) (λ done n.
    after (closed t n) (λ done o. after (told (line.Exit t) o) (λ done p. left_chain p))))))

-- A task that is lifted with `async` has come to its end, where it has resolved.
unfoldable pub ending : ℕ → Held → Done Flow
ending t h =
    after (resolution_of t h) (λ resolution k. if is_none resolution then Traps trap.Unresolved k else Gives flow.Rests (at_rest rest.Leaves k))

-- A task's core function or callback gave a word: it exits, or blocks in its loop, which gives up exclusive entry.
unfoldable pub looped : ℕ → ℕ → ℕ → BlockReason → Held → Done Flow
looped t at word why h = after (gate_given_up at t h) (λ done k. blocked t (blocked_at.Loop word) false why k)

unfoldable pub looped_at_set : ℕ → ℕ → ℕ → ℕ → BlockReason → Held → Done Flow
looped_at_set t at word index why h =
    after (set_found at index h) (λ set k. after (set_waited_on at set k) (λ done l. looped t at word why l))

abbrev pub loops_by : ℕ → ℕ → ℕ → Result Next BadCode → Held → Done Flow
loops_by t at word (Err why) h = Traps trap.BadCode h
loops_by t at word (Ok next.Exit) h = ending t h
loops_by t at word (Ok next.Yield) h = looped t at word reason.Yield h
loops_by t at word (Ok (next.Wait set)) h = looped_at_set t at word set (reason.Wait set) h
loops_by t at word (Ok (next.Poll set)) h = looped_at_set t at word set (reason.Poll set) h

unfoldable pub loops : ℕ → ℕ → Held → Done Flow
loops t word h = after (instance_of t h) (λ at k. loops_by t at word (callback_of word) k)

-- A blocked task goes on in its loop, where it has exclusive entry again: the event of its cancellation comes, or of a member of the set on
-- which it waited, or none.
abbrev pub loop_flow : Bool → Bool → ℕ → Flow
loop_flow is_asked polls set =
    if is_asked then flow.HearsCancel receiver.InCallback else
    if polls then flow.Polls receiver.InCallback set else flow.Delivers receiver.InCallback set

abbrev pub yield_flow : Bool → Flow
yield_flow is_asked = if is_asked then flow.HearsCancel receiver.InCallback else flow.HearsNone receiver.InCallback

unfoldable pub loop_resumed_at : ℕ → Bool → Bool → ℕ → Held → Done Flow
loop_resumed_at at is_asked polls index h =
    after (set_known at index h) (λ set k. after (set_waited_off at set k) (λ done l. Gives (loop_flow is_asked polls set) l))

abbrev pub loop_resumed_by : ℕ → Bool → Result Next BadCode → Held → Done Flow
loop_resumed_by at is_asked (Err why) h = Stuck
loop_resumed_by at is_asked (Ok next.Exit) h = Stuck
loop_resumed_by at is_asked (Ok next.Yield) h = Gives (yield_flow is_asked) h
loop_resumed_by at is_asked (Ok (next.Wait index)) h = loop_resumed_at at is_asked false index h
loop_resumed_by at is_asked (Ok (next.Poll index)) h = loop_resumed_at at is_asked true index h

unfoldable pub loop_resumed : ℕ → ℕ → ℕ → Held → Done Flow
loop_resumed t at word h =
    after (asked t h) (λ is_asked k. after (happens t event.Go k) (λ done l. after (gate_taken_back at t l) (λ done m.
    loop_resumed_by at is_asked (callback_of word) m)))

-- It goes on in a built-in, where its cancellation may end the wait.
unfoldable pub yield_resumed : ℕ → Bool → Held → Done Flow
yield_resumed t told_so h = if told_so then yield_cancelled t h else got t (0 ∷ []) h

abbrev pub set_flow : Bool → ℕ → ℕ → ℕ → Flow
set_flow told_so canon place set =
    if told_so then flow.HearsCancel (receiver.InWait canon place) else flow.Delivers (receiver.InWait canon place) set

unfoldable pub set_resumed : ℕ → ℕ → Bool → ℕ → ℕ → Held → Done Flow
set_resumed at canon told_so index place h =
    after (set_known at index h) (λ set k. after (set_waited_off at set k) (λ done l. Gives (set_flow told_so canon place set) l))

unfoldable pub call_resumed : ℕ → ℕ → ℕ → Held → Done Flow
call_resumed t at callee h = after (result_found callee h) (λ words k. after (subtask_told at callee k) (λ payload l. got t words l))

unfoldable pub cancel_resumed : ℕ → ℕ → ℕ → Held → Done Flow
cancel_resumed t at index h =
    after (subtask_known at index h) (λ callee k. after (awaited callee false k) (λ done l.
    after (subtask_told at callee l) (λ payload m. got t (payload ∷ []) m)))

abbrev pub copy_resumed_of : ℕ → ℕ → ℕ → Option WorldEntry → Held → Done Flow
copy_resumed_of t at index None h = Stuck
copy_resumed_of t at index (Some (entry.Handle x)) h = Stuck
copy_resumed_of t at index (Some (entry.Subtask callee)) h = Stuck
copy_resumed_of t at index (Some (entry.Set set)) h = Stuck
copy_resumed_of t at index (Some (entry.End e)) h = after (end_told at index e h) (λ payload k. got t (payload ∷ []) k)

unfoldable pub copy_resumed : ℕ → ℕ → ℕ → Held → Done Flow
copy_resumed t at index h = after (entry_found at index h) (λ found k. copy_resumed_of t at index found k)

abbrev pub wait_resumed : ℕ → ℕ → ℕ → Bool → ℕ → BlockedAt → Held → Done Flow
wait_resumed t at canon told_so place blocked_at.Entry h = Stuck
wait_resumed t at canon told_so place (blocked_at.Loop word) h = Stuck
wait_resumed t at canon told_so place blocked_at.Yield h = yield_resumed t told_so h
wait_resumed t at canon told_so place (blocked_at.Set index) h = set_resumed at canon told_so index place h
wait_resumed t at canon told_so place (blocked_at.Call callee) h = call_resumed t at callee h
wait_resumed t at canon told_so place (blocked_at.Copy index) h = copy_resumed t at index h
wait_resumed t at canon told_so place (blocked_at.Cancel index) h = cancel_resumed t at index h

-- the place that a wait was called with; no other canonical function has one
abbrev pub place_of : ℕ → BlockedAt → Held → Done ℕ
place_of t blocked_at.Entry h = Gives 0 h
place_of t (blocked_at.Loop word) h = Gives 0 h
place_of t blocked_at.Yield h = Gives 0 h
place_of t (blocked_at.Set index) h = word_of t 1 h
place_of t (blocked_at.Call callee) h = Gives 0 h
place_of t (blocked_at.Copy index) h = Gives 0 h
place_of t (blocked_at.Cancel index) h = Gives 0 h

unfoldable pub builtin_resumed : ℕ → ℕ → ℕ → BlockedAt → Held → Done Flow
builtin_resumed t at canon why h =
    after (to_be_told t h) (λ told_so k. after (place_of t why k) (λ place l. after (happens t event.Go l) (λ done m.
    after (errand_set t errand.None m) (λ done n. wait_resumed t at canon told_so place why n))))

abbrev pub resumed_in : ℕ → ℕ → BlockedAt → Errand → Held → Done Flow
resumed_in t at why errand.None h = Stuck
resumed_in t at why (errand.AfterCall callee canon) h = Stuck
resumed_in t at why (errand.AfterCancel callee canon index) h = Stuck
resumed_in t at why (errand.Begins n) h = Stuck
resumed_in t at why (errand.InBuiltin canon) h = builtin_resumed t at canon why h

unfoldable pub resumed_from : ℕ → ℕ → BlockedAt → Held → Done Flow
resumed_from t at why h = after (errand_of t h) (λ e k. resumed_in t at why e k)

abbrev pub resumed_by : ℕ → ℕ → Phase → Held → Done Flow
resumed_by t at phase.New h = Stuck
resumed_by t at phase.Acting h = Stuck
resumed_by t at (phase.Blocked blocked_at.Entry flag) h = Gives flow.Enters h
resumed_by t at (phase.Blocked (blocked_at.Loop word) flag) h = loop_resumed t at word h
resumed_by t at (phase.Blocked blocked_at.Yield flag) h = resumed_from t at blocked_at.Yield h
resumed_by t at (phase.Blocked (blocked_at.Set index) flag) h = resumed_from t at (blocked_at.Set index) h
resumed_by t at (phase.Blocked (blocked_at.Call callee) flag) h = resumed_from t at (blocked_at.Call callee) h
resumed_by t at (phase.Blocked (blocked_at.Copy index) flag) h = resumed_from t at (blocked_at.Copy index) h
resumed_by t at (phase.Blocked (blocked_at.Cancel index) flag) h = resumed_from t at (blocked_at.Cancel index) h
resumed_by t at phase.Exited h = Stuck

-- The acting task, which was blocked, goes on.
unfoldable pub resumes : Held → Done Flow
resumes h = after (acting h) (λ t k. after (instance_of t k) (λ at l. after (phase_of t l) (λ far m. resumed_by t at far m)))
