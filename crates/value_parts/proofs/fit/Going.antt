-- Tasks that arrive, enter, go on and exit keep stacks typed, and no handle is lent more often.
use Rattle.std.proofs.Common.{◌≡◌, refl, Some}
use Rattle.std.specs.Prelude.{ℕ, Bool, false, true, is_none, if◌then◌else◌, [], ◌∷◌, Option, Some, None, Result, Ok, Err}
use Rattle.entry_gate.specs.Callbacks.{callback_of}
use Rattle.entry_gate.specs.declared.callback.BadCode.{BadCode}
use Rattle.entry_gate.specs.declared.callback.Next.{Next}
use Rattle.entry_gate.specs.declared.callback.Next.TheVariants as next
use Rattle.tasks.specs.declared.event.BlockedAt.{BlockedAt}
use Rattle.tasks.specs.declared.event.BlockedAt.TheVariants as blocked_at
use Rattle.tasks.specs.declared.event.TaskEvent.TheVariants as event
use Rattle.tasks.specs.declared.phase.Phase.{Phase}
use Rattle.tasks.specs.declared.phase.Phase.TheVariants as phase
use Rattle.tasks.specs.declared.subtask_state.SubtaskState.TheVariants as state
use Rattle.task_table.specs.declared.errand.Errand.{Errand}
use Rattle.task_table.specs.declared.errand.Errand.TheVariants as errand
use Rattle.instances.specs.declared.entry.WorldEntry.{WorldEntry}
use Rattle.instances.specs.declared.entry.WorldEntry.TheVariants as entry
use Rattle.trace_labels.specs.declared.label.BlockReason.{BlockReason}
use Rattle.trace_labels.specs.declared.label.BlockReason.TheVariants as reason
use Rattle.trace_labels.specs.declared.label.Label.TheVariants as line
use Rattle.trace_labels.specs.declared.trap.TrapName.TheVariants as trap
use Rattle.world_parts.specs.declared.parts.Rest.TheVariants as rest
use Rattle.world_parts.specs.declared.parts.Receiver.TheVariants as receiver
use Rattle.world_parts.specs.declared.parts.Flow.{Flow}
use Rattle.world_parts.specs.declared.parts.Flow.TheVariants as flow
use Rattle.world_parts.specs.Held.{Held, Done, Gives, Traps, Stuck, after}
use Rattle.world_parts.specs.Feed.{told, at_rest, acting, left_chain, got}
use Rattle.world_parts.specs.Entries.{entry_found, subtask_known, set_found, set_known, set_waited_on, set_waited_off}
use Rattle.world_parts.specs.Gates.{may_enter, gate_waited, gate_unwaited, gate_entered, gate_given_up, gate_taken_back}
use Rattle.world_parts.specs.Slots.{instance_of, kind_of, phase_of, resolution_of, errand_of, asked, to_be_told, word_of, happens, errand_set, raised, awaited, result_found, closed, parked, unparked}
use Rattle.world_parts.specs.Calls.{blocked, subtask_told}
use Rattle.world_parts.specs.Plain.{yield_cancelled}
use Rattle.world_parts.specs.Events.{end_told}
use Rattle.world_parts.specs.Going.{arrives, builtin_resumed, call_resumed, cancel_resumed, copy_resumed, copy_resumed_of, ending, enters, leaves, loop_flow, loop_resumed, loop_resumed_at, loop_resumed_by, looped, looped_at_set, loops, loops_by, place_of, resumed_by, resumed_from, resumed_in, resumes, set_flow, set_resumed, unwaited, unwaited_if, wait_resumed, waits_to_enter, yield_flow, yield_resumed}
use Rattle.value_parts.proofs.fit.Keeps.{Keeps, KeepsBy, keeps_after, keeps_given, keeps_if, keeps_same, keeps_all, keeps_from, keeps_instance}
use Rattle.value_parts.proofs.fit.Calls.{blocked_keeps, subtask_told_keeps}
use Rattle.value_parts.proofs.fit.Entries.{entry_found_keeps, set_found_keeps, set_known_keeps, set_waited_off_keeps, set_waited_on_keeps, subtask_known_keeps}
use Rattle.value_parts.proofs.fit.Events.{end_told_keeps}
use Rattle.value_parts.proofs.fit.Feed.{acting_keeps, got_keeps, left_chain_keeps, told_keeps}
use Rattle.value_parts.proofs.fit.Gates.{gate_entered_keeps, gate_given_up_keeps, gate_taken_back_keeps, gate_unwaited_keeps, gate_waited_keeps, may_enter_keeps}
use Rattle.value_parts.proofs.fit.Plain.{yield_cancelled_keeps}
use Rattle.value_parts.proofs.fit.Slots.{asked_keeps, awaited_keeps, closed_keeps, errand_of_keeps, errand_set_keeps, happens_keeps, instance_of_keeps, kind_of_keeps, parked_keeps, phase_of_keeps, raised_keeps, resolution_of_keeps, result_found_keeps, to_be_told_keeps, unparked_keeps, word_of_keeps}

pub arrives_keeps : (h : Held) → KeepsBy h (arrives h)
unfolding arrives
arrives_keeps h =
    keeps_after h (acting h) (λ t k. after (instance_of t k) (λ at l. after (kind_of t l) (λ kind m. after (may_enter at kind true m) (λ may n. if may then Gives flow.Enters n else after (gate_waited at n) (λ done o. after (parked t kind o) (λ done p. blocked t blocked_at.Entry false reason.Entry p)))))) (acting_keeps h) (λ t k. keeps_after k (instance_of t k) (λ at l. after (kind_of t l) (λ kind m. after (may_enter at kind true m) (λ may n. if may then Gives flow.Enters n else after (gate_waited at n) (λ done o. after (parked t kind o) (λ done p. blocked t blocked_at.Entry false reason.Entry p))))) (instance_of_keeps t k) (λ at l. keeps_after l (kind_of t l) (λ kind m. after (may_enter at kind true m) (λ may n. if may then Gives flow.Enters n else after (gate_waited at n) (λ done o. after (parked t kind o) (λ done p. blocked t blocked_at.Entry false reason.Entry p)))) (kind_of_keeps t l) (λ kind m. keeps_after m (may_enter at kind true m) (λ may n. if may then Gives flow.Enters n else after (gate_waited at n) (λ done o. after (parked t kind o) (λ done p. blocked t blocked_at.Entry false reason.Entry p))) (may_enter_keeps at kind true m) (λ may n. keeps_if n (may) (Gives flow.Enters n) (after (gate_waited at n) (λ done o. after (parked t kind o) (λ done p. blocked t blocked_at.Entry false reason.Entry p))) (keeps_same n) (keeps_after n (gate_waited at n) (λ done o. after (parked t kind o) (λ done p. blocked t blocked_at.Entry false reason.Entry p)) (gate_waited_keeps at n) (λ done o. keeps_after o (parked t kind o) (λ done p. blocked t blocked_at.Entry false reason.Entry p) (parked_keeps t kind o) (λ done p. blocked_keeps t blocked_at.Entry false reason.Entry p)))))))

pub unwaited_keeps : (t : ℕ) (at : ℕ) (h : Held) → KeepsBy h (unwaited t at h)
unwaited_keeps t at h =
    keeps_after h (gate_unwaited at h) (λ done k. unparked t k) (gate_unwaited_keeps at h) (λ done k. unparked_keeps t k)

pub unwaited_if_keeps : (waits : Bool) (t : ℕ) (at : ℕ) (h : Held) → KeepsBy h (unwaited_if waits t at h)
unwaited_if_keeps waits t at h =
    keeps_if h (waits) (unwaited t at h) (Gives (tt {0}) h) (unwaited_keeps t at h) (keeps_same h)

pub enters_keeps : (t : ℕ) (h : Held) → KeepsBy h (enters t h)
unfolding enters
enters_keeps t h =
    keeps_after h (instance_of t h) (λ at k. after (kind_of t k) (λ kind l. after (phase_of t l) (λ far m. after (unwaited_if (waits_to_enter far) t at m) (λ done n. after (gate_entered at t kind n) (λ done o. after (happens t event.Enter o) (λ done p. after (raised t state.Started p) (λ done q. told (line.Enter t) q))))))) (instance_of_keeps t h) (λ at k. keeps_after k (kind_of t k) (λ kind l. after (phase_of t l) (λ far m. after (unwaited_if (waits_to_enter far) t at m) (λ done n. after (gate_entered at t kind n) (λ done o. after (happens t event.Enter o) (λ done p. after (raised t state.Started p) (λ done q. told (line.Enter t) q)))))) (kind_of_keeps t k) (λ kind l. keeps_after l (phase_of t l) (λ far m. after (unwaited_if (waits_to_enter far) t at m) (λ done n. after (gate_entered at t kind n) (λ done o. after (happens t event.Enter o) (λ done p. after (raised t state.Started p) (λ done q. told (line.Enter t) q))))) (phase_of_keeps t l) (λ far m. keeps_after m (unwaited_if (waits_to_enter far) t at m) (λ done n. after (gate_entered at t kind n) (λ done o. after (happens t event.Enter o) (λ done p. after (raised t state.Started p) (λ done q. told (line.Enter t) q)))) (unwaited_if_keeps (waits_to_enter far) t at m) (λ done n. keeps_after n (gate_entered at t kind n) (λ done o. after (happens t event.Enter o) (λ done p. after (raised t state.Started p) (λ done q. told (line.Enter t) q))) (gate_entered_keeps at t kind n) (λ done o. keeps_after o (happens t event.Enter o) (λ done p. after (raised t state.Started p) (λ done q. told (line.Enter t) q)) (happens_keeps t event.Enter o) (λ done p. keeps_after p (raised t state.Started p) (λ done q. told (line.Enter t) q) (raised_keeps t state.Started p) (λ done q. told_keeps (line.Enter t) q)))))))

pub leaves_keeps : (h : Held) → KeepsBy h (leaves h)
unfolding leaves
leaves_keeps h =
    keeps_after h (acting h) (λ t k. after (instance_of t k) (λ at l. after (happens t event.Exit l) (λ done m. after (gate_given_up at t m) (λ done n. after (closed t n) (λ done o. after (told (line.Exit t) o) (λ done p. left_chain p)))))) (acting_keeps h) (λ t k. keeps_after k (instance_of t k) (λ at l. after (happens t event.Exit l) (λ done m. after (gate_given_up at t m) (λ done n. after (closed t n) (λ done o. after (told (line.Exit t) o) (λ done p. left_chain p))))) (instance_of_keeps t k) (λ at l. keeps_after l (happens t event.Exit l) (λ done m. after (gate_given_up at t m) (λ done n. after (closed t n) (λ done o. after (told (line.Exit t) o) (λ done p. left_chain p)))) (happens_keeps t event.Exit l) (λ done m. keeps_after m (gate_given_up at t m) (λ done n. after (closed t n) (λ done o. after (told (line.Exit t) o) (λ done p. left_chain p))) (gate_given_up_keeps at t m) (λ done n. keeps_after n (closed t n) (λ done o. after (told (line.Exit t) o) (λ done p. left_chain p)) (closed_keeps t n) (λ done o. keeps_after o (told (line.Exit t) o) (λ done p. left_chain p) (told_keeps (line.Exit t) o) (λ done p. left_chain_keeps p))))))

pub ending_keeps : (t : ℕ) (h : Held) → KeepsBy h (ending t h)
unfolding ending
ending_keeps t h =
    keeps_after h (resolution_of t h) (λ resolution k. if is_none resolution then Traps trap.Unresolved k else Gives flow.Rests (at_rest rest.Leaves k)) (resolution_of_keeps t h) (λ resolution k. keeps_if k (is_none resolution) (Traps trap.Unresolved k) (Gives flow.Rests (at_rest rest.Leaves k)) tt (keeps_all k (at_rest rest.Leaves k) refl refl))

pub looped_keeps : (t : ℕ) (at : ℕ) (word : ℕ) (why : BlockReason) (h : Held) → KeepsBy h (looped t at word why h)
unfolding looped
looped_keeps t at word why h =
    keeps_after h (gate_given_up at t h) (λ done k. blocked t (blocked_at.Loop word) false why k) (gate_given_up_keeps at t h) (λ done k. blocked_keeps t (blocked_at.Loop word) false why k)

pub looped_at_set_keeps : (t : ℕ) (at : ℕ) (word : ℕ) (index : ℕ) (why : BlockReason) (h : Held) → KeepsBy h (looped_at_set t at word index why h)
unfolding looped_at_set
looped_at_set_keeps t at word index why h =
    keeps_after h (set_found at index h) (λ set k. after (set_waited_on at set k) (λ done l. looped t at word why l)) (set_found_keeps at index h) (λ set k. keeps_after k (set_waited_on at set k) (λ done l. looped t at word why l) (set_waited_on_keeps at set k) (λ done l. looped_keeps t at word why l))

pub loops_by_keeps : (t : ℕ) (at : ℕ) (word : ℕ) (r : Result Next BadCode) (h : Held) → KeepsBy h (loops_by t at word r h)
loops_by_keeps t at word (Err why) h =
    tt
loops_by_keeps t at word (Ok next.Exit) h =
    ending_keeps t h
loops_by_keeps t at word (Ok next.Yield) h =
    looped_keeps t at word reason.Yield h
loops_by_keeps t at word (Ok (next.Wait set)) h =
    looped_at_set_keeps t at word set (reason.Wait set) h
loops_by_keeps t at word (Ok (next.Poll set)) h =
    looped_at_set_keeps t at word set (reason.Poll set) h

pub loops_keeps : (t : ℕ) (word : ℕ) (h : Held) → KeepsBy h (loops t word h)
unfolding loops
loops_keeps t word h =
    keeps_after h (instance_of t h) (λ at k. loops_by t at word (callback_of word) k) (instance_of_keeps t h) (λ at k. loops_by_keeps t at word (callback_of word) k)

pub loop_resumed_at_keeps : (at : ℕ) (is_asked : Bool) (polls : Bool) (index : ℕ) (h : Held) → KeepsBy h (loop_resumed_at at is_asked polls index h)
unfolding loop_resumed_at
loop_resumed_at_keeps at is_asked polls index h =
    keeps_after h (set_known at index h) (λ set k. after (set_waited_off at set k) (λ done l. Gives (loop_flow is_asked polls set) l)) (set_known_keeps at index h) (λ set k. keeps_after k (set_waited_off at set k) (λ done l. Gives (loop_flow is_asked polls set) l) (set_waited_off_keeps at set k) (λ done l. keeps_same l))

pub loop_resumed_by_keeps : (at : ℕ) (is_asked : Bool) (r : Result Next BadCode) (h : Held) → KeepsBy h (loop_resumed_by at is_asked r h)
loop_resumed_by_keeps at is_asked (Err why) h =
    tt
loop_resumed_by_keeps at is_asked (Ok next.Exit) h =
    tt
loop_resumed_by_keeps at is_asked (Ok next.Yield) h =
    keeps_same h
loop_resumed_by_keeps at is_asked (Ok (next.Wait index)) h =
    loop_resumed_at_keeps at is_asked false index h
loop_resumed_by_keeps at is_asked (Ok (next.Poll index)) h =
    loop_resumed_at_keeps at is_asked true index h

pub loop_resumed_keeps : (t : ℕ) (at : ℕ) (word : ℕ) (h : Held) → KeepsBy h (loop_resumed t at word h)
unfolding loop_resumed
loop_resumed_keeps t at word h =
    keeps_after h (asked t h) (λ is_asked k. after (happens t event.Go k) (λ done l. after (gate_taken_back at t l) (λ done m. loop_resumed_by at is_asked (callback_of word) m))) (asked_keeps t h) (λ is_asked k. keeps_after k (happens t event.Go k) (λ done l. after (gate_taken_back at t l) (λ done m. loop_resumed_by at is_asked (callback_of word) m)) (happens_keeps t event.Go k) (λ done l. keeps_after l (gate_taken_back at t l) (λ done m. loop_resumed_by at is_asked (callback_of word) m) (gate_taken_back_keeps at t l) (λ done m. loop_resumed_by_keeps at is_asked (callback_of word) m)))

pub yield_resumed_keeps : (t : ℕ) (told_so : Bool) (h : Held) → KeepsBy h (yield_resumed t told_so h)
unfolding yield_resumed
yield_resumed_keeps t told_so h =
    keeps_if h (told_so) (yield_cancelled t h) (got t (0 ∷ []) h) (yield_cancelled_keeps t h) (got_keeps t (0 ∷ []) h)

pub set_resumed_keeps : (at : ℕ) (canon : ℕ) (told_so : Bool) (index : ℕ) (place : ℕ) (h : Held) → KeepsBy h (set_resumed at canon told_so index place h)
unfolding set_resumed
set_resumed_keeps at canon told_so index place h =
    keeps_after h (set_known at index h) (λ set k. after (set_waited_off at set k) (λ done l. Gives (set_flow told_so canon place set) l)) (set_known_keeps at index h) (λ set k. keeps_after k (set_waited_off at set k) (λ done l. Gives (set_flow told_so canon place set) l) (set_waited_off_keeps at set k) (λ done l. keeps_same l))

pub call_resumed_keeps : (t : ℕ) (at : ℕ) (callee : ℕ) (h : Held) → KeepsBy h (call_resumed t at callee h)
unfolding call_resumed
call_resumed_keeps t at callee h =
    keeps_after h (result_found callee h) (λ words k. after (subtask_told at callee k) (λ payload l. got t words l)) (result_found_keeps callee h) (λ words k. keeps_after k (subtask_told at callee k) (λ payload l. got t words l) (subtask_told_keeps at callee k) (λ payload l. got_keeps t words l))

pub cancel_resumed_keeps : (t : ℕ) (at : ℕ) (index : ℕ) (h : Held) → KeepsBy h (cancel_resumed t at index h)
unfolding cancel_resumed
cancel_resumed_keeps t at index h =
    keeps_after h (subtask_known at index h) (λ callee k. after (awaited callee false k) (λ done l. after (subtask_told at callee l) (λ payload m. got t (payload ∷ []) m))) (subtask_known_keeps at index h) (λ callee k. keeps_after k (awaited callee false k) (λ done l. after (subtask_told at callee l) (λ payload m. got t (payload ∷ []) m)) (awaited_keeps callee false k) (λ done l. keeps_after l (subtask_told at callee l) (λ payload m. got t (payload ∷ []) m) (subtask_told_keeps at callee l) (λ payload m. got_keeps t (payload ∷ []) m)))

pub copy_resumed_of_keeps : (t : ℕ) (at : ℕ) (index : ℕ) (o : Option WorldEntry) (h : Held) → KeepsBy h (copy_resumed_of t at index o h)
copy_resumed_of_keeps t at index None h =
    tt
copy_resumed_of_keeps t at index (Some (entry.Handle x)) h =
    tt
copy_resumed_of_keeps t at index (Some (entry.Subtask callee)) h =
    tt
copy_resumed_of_keeps t at index (Some (entry.Set set)) h =
    tt
copy_resumed_of_keeps t at index (Some (entry.End e)) h =
    keeps_after h (end_told at index e h) (λ payload k. got t (payload ∷ []) k) (end_told_keeps at index e h) (λ payload k. got_keeps t (payload ∷ []) k)

pub copy_resumed_keeps : (t : ℕ) (at : ℕ) (index : ℕ) (h : Held) → KeepsBy h (copy_resumed t at index h)
unfolding copy_resumed
copy_resumed_keeps t at index h =
    keeps_after h (entry_found at index h) (λ found k. copy_resumed_of t at index found k) (entry_found_keeps at index h) (λ found k. copy_resumed_of_keeps t at index found k)

pub wait_resumed_keeps : (t : ℕ) (at : ℕ) (canon : ℕ) (told_so : Bool) (place : ℕ) (why : BlockedAt) (h : Held) → KeepsBy h (wait_resumed t at canon told_so place why h)
wait_resumed_keeps t at canon told_so place blocked_at.Entry h =
    tt
wait_resumed_keeps t at canon told_so place (blocked_at.Loop word) h =
    tt
wait_resumed_keeps t at canon told_so place blocked_at.Yield h =
    yield_resumed_keeps t told_so h
wait_resumed_keeps t at canon told_so place (blocked_at.Set index) h =
    set_resumed_keeps at canon told_so index place h
wait_resumed_keeps t at canon told_so place (blocked_at.Call callee) h =
    call_resumed_keeps t at callee h
wait_resumed_keeps t at canon told_so place (blocked_at.Copy index) h =
    copy_resumed_keeps t at index h
wait_resumed_keeps t at canon told_so place (blocked_at.Cancel index) h =
    cancel_resumed_keeps t at index h

pub place_of_keeps : (t : ℕ) (why : BlockedAt) (h : Held) → KeepsBy h (place_of t why h)
place_of_keeps t blocked_at.Entry h =
    keeps_same h
place_of_keeps t (blocked_at.Loop word) h =
    keeps_same h
place_of_keeps t blocked_at.Yield h =
    keeps_same h
place_of_keeps t (blocked_at.Set index) h =
    word_of_keeps t 1 h
place_of_keeps t (blocked_at.Call callee) h =
    keeps_same h
place_of_keeps t (blocked_at.Copy index) h =
    keeps_same h
place_of_keeps t (blocked_at.Cancel index) h =
    keeps_same h

pub builtin_resumed_keeps : (t : ℕ) (at : ℕ) (canon : ℕ) (why : BlockedAt) (h : Held) → KeepsBy h (builtin_resumed t at canon why h)
unfolding builtin_resumed
builtin_resumed_keeps t at canon why h =
    keeps_after h (to_be_told t h) (λ told_so k. after (place_of t why k) (λ place l. after (happens t event.Go l) (λ done m. after (errand_set t errand.None m) (λ done n. wait_resumed t at canon told_so place why n)))) (to_be_told_keeps t h) (λ told_so k. keeps_after k (place_of t why k) (λ place l. after (happens t event.Go l) (λ done m. after (errand_set t errand.None m) (λ done n. wait_resumed t at canon told_so place why n))) (place_of_keeps t why k) (λ place l. keeps_after l (happens t event.Go l) (λ done m. after (errand_set t errand.None m) (λ done n. wait_resumed t at canon told_so place why n)) (happens_keeps t event.Go l) (λ done m. keeps_after m (errand_set t errand.None m) (λ done n. wait_resumed t at canon told_so place why n) (errand_set_keeps t errand.None m) (λ done n. wait_resumed_keeps t at canon told_so place why n))))

pub resumed_in_keeps : (t : ℕ) (at : ℕ) (why : BlockedAt) (e : Errand) (h : Held) → KeepsBy h (resumed_in t at why e h)
resumed_in_keeps t at why errand.None h =
    tt
resumed_in_keeps t at why (errand.AfterCall callee canon) h =
    tt
resumed_in_keeps t at why (errand.AfterCancel callee canon index) h =
    tt
resumed_in_keeps t at why (errand.Begins n) h =
    tt
resumed_in_keeps t at why (errand.InBuiltin canon) h =
    builtin_resumed_keeps t at canon why h

pub resumed_from_keeps : (t : ℕ) (at : ℕ) (why : BlockedAt) (h : Held) → KeepsBy h (resumed_from t at why h)
unfolding resumed_from
resumed_from_keeps t at why h =
    keeps_after h (errand_of t h) (λ e k. resumed_in t at why e k) (errand_of_keeps t h) (λ e k. resumed_in_keeps t at why e k)

pub resumed_by_keeps : (t : ℕ) (at : ℕ) (far : Phase) (h : Held) → KeepsBy h (resumed_by t at far h)
resumed_by_keeps t at phase.New h =
    tt
resumed_by_keeps t at phase.Acting h =
    tt
resumed_by_keeps t at (phase.Blocked blocked_at.Entry flag) h =
    keeps_same h
resumed_by_keeps t at (phase.Blocked (blocked_at.Loop word) flag) h =
    loop_resumed_keeps t at word h
resumed_by_keeps t at (phase.Blocked blocked_at.Yield flag) h =
    resumed_from_keeps t at blocked_at.Yield h
resumed_by_keeps t at (phase.Blocked (blocked_at.Set index) flag) h =
    resumed_from_keeps t at (blocked_at.Set index) h
resumed_by_keeps t at (phase.Blocked (blocked_at.Call callee) flag) h =
    resumed_from_keeps t at (blocked_at.Call callee) h
resumed_by_keeps t at (phase.Blocked (blocked_at.Copy index) flag) h =
    resumed_from_keeps t at (blocked_at.Copy index) h
resumed_by_keeps t at (phase.Blocked (blocked_at.Cancel index) flag) h =
    resumed_from_keeps t at (blocked_at.Cancel index) h
resumed_by_keeps t at phase.Exited h =
    tt

pub resumes_keeps : (h : Held) → KeepsBy h (resumes h)
unfolding resumes
resumes_keeps h =
    keeps_after h (acting h) (λ t k. after (instance_of t k) (λ at l. after (phase_of t l) (λ far m. resumed_by t at far m))) (acting_keeps h) (λ t k. keeps_after k (instance_of t k) (λ at l. after (phase_of t l) (λ far m. resumed_by t at far m)) (instance_of_keeps t k) (λ at l. keeps_after l (phase_of t l) (λ far m. resumed_by t at far m) (phase_of_keeps t l) (λ far m. resumed_by_keeps t at far m)))
