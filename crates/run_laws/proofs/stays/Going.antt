-- How tasks enter, go on and exit: the chain and the number of tasks stay, but where a part rests.
use Rattle.std.proofs.Common.{refl, Some}
use Rattle.std.specs.Prelude.{ℕ, Bool, false, true, is_none, if◌then◌else◌, [], ◌∷◌, Option, Some, None, Result, Ok, Err}
use Rattle.entry_gate.specs.Callbacks.{callback_of}
use Rattle.entry_gate.specs.declared.callback.BadCode.{BadCode}
use Rattle.entry_gate.specs.declared.callback.Next.{Next}
use Rattle.entry_gate.specs.declared.callback.Next.TheVariants as next
use Rattle.tasks.specs.declared.event.BlockedAt.{BlockedAt}
use Rattle.tasks.specs.declared.event.BlockedAt.TheVariants as blocked_at
use Rattle.tasks.specs.declared.event.TaskEvent.TheVariants as event
use Rattle.tasks.specs.declared.phase.Phase.{Phase}
use Rattle.tasks.specs.declared.phase.Phase.TheVariants as phase
use Rattle.tasks.specs.declared.subtask_state.SubtaskState.TheVariants as state
use Rattle.task_table.specs.declared.errand.Errand.{Errand}
use Rattle.task_table.specs.declared.errand.Errand.TheVariants as errand
use Rattle.instances.specs.declared.entry.WorldEntry.{WorldEntry}
use Rattle.instances.specs.declared.entry.WorldEntry.TheVariants as entry
use Rattle.trace_labels.specs.declared.label.BlockReason.{BlockReason}
use Rattle.trace_labels.specs.declared.label.BlockReason.TheVariants as reason
use Rattle.trace_labels.specs.declared.label.Label.TheVariants as line
use Rattle.trace_labels.specs.declared.trap.TrapName.TheVariants as trap
use Rattle.world_parts.specs.declared.parts.Rest.TheVariants as rest
use Rattle.world_parts.specs.declared.parts.Flow.TheVariants as flow
use Rattle.world_parts.specs.Held.{Held, Gives, Traps, after}
use Rattle.world_parts.specs.Feed.{told, at_rest, acting, left_chain, got}
use Rattle.world_parts.specs.Entries.{entry_found, subtask_known, set_found, set_known, set_waited_on, set_waited_off}
use Rattle.world_parts.specs.Gates.{may_enter, gate_waited, gate_unwaited, gate_entered, gate_given_up, gate_taken_back}
use Rattle.world_parts.specs.Slots.{instance_of, kind_of, phase_of, resolution_of, errand_of, asked, to_be_told, happens, errand_set, raised, awaited, result_found, closed, parked, unparked}
use Rattle.world_parts.specs.Calls.{blocked, subtask_told}
use Rattle.world_parts.specs.Plain.{yield_cancelled}
use Rattle.world_parts.specs.Events.{end_told}
use Rattle.world_parts.specs.Going.{arrives, builtin_resumed, call_resumed, cancel_resumed, copy_resumed, copy_resumed_of, ending, enters, leaves, loop_flow, loop_resumed, loop_resumed_at, loop_resumed_by, looped, looped_at_set, loops, loops_by, place_of, resumed_by, resumed_from, resumed_in, resumes, set_flow, set_resumed, unwaited, unwaited_if, wait_resumed, waits_to_enter, yield_resumed}
use Rattle.run_laws.proofs.stays.Calls.{blocked_stays, subtask_told_stays}
use Rattle.run_laws.proofs.stays.Entries.{entry_found_stays, set_found_stays, set_known_stays, set_waited_off_stays, set_waited_on_stays, subtask_known_stays}
use Rattle.run_laws.proofs.stays.Events.{end_told_stays}
use Rattle.run_laws.proofs.stays.Feed.{acting_stays, got_stays, left_chain_stays, told_stays}
use Rattle.run_laws.proofs.stays.Gates.{gate_entered_stays, gate_given_up_stays, gate_taken_back_stays, gate_unwaited_stays, gate_waited_stays, may_enter_stays}
use Rattle.run_laws.proofs.stays.Plain.{yield_cancelled_stays}
use Rattle.run_laws.proofs.stays.Slots.{asked_stays, awaited_stays, closed_stays, errand_of_stays, errand_set_stays, happens_stays, instance_of_stays, kind_of_stays, parked_stays, phase_of_stays, raised_stays, resolution_of_stays, result_found_stays, to_be_told_stays, unparked_stays, word_of_stays}
use Rattle.run_laws.proofs.stays.Same.{StaysBy, FlowsBy, stays_after, stays_if, stays_same, flows_after, flows_if, flows_same, flows_all}

pub arrives_stays : (h : Held) → FlowsBy h (arrives h)
unfolding arrives
arrives_stays h =
    flows_after h (acting h) (λ t k. after (instance_of t k) (λ at l. after (kind_of t l) (λ kind m. after (may_enter at kind true m) (λ may n. if may then Gives flow.Enters n else after (gate_waited at n) (λ done o. after (parked t kind o) (λ done p. blocked t blocked_at.Entry false reason.Entry p)))))) (acting_stays h) (λ t k. flows_after k (instance_of t k) (λ at l. after (kind_of t l) (λ kind m. after (may_enter at kind true m) (λ may n. if may then Gives flow.Enters n else after (gate_waited at n) (λ done o. after (parked t kind o) (λ done p. blocked t blocked_at.Entry false reason.Entry p))))) (instance_of_stays t k) (λ at l. flows_after l (kind_of t l) (λ kind m. after (may_enter at kind true m) (λ may n. if may then Gives flow.Enters n else after (gate_waited at n) (λ done o. after (parked t kind o) (λ done p. blocked t blocked_at.Entry false reason.Entry p)))) (kind_of_stays t l) (λ kind m. flows_after m (may_enter at kind true m) (λ may n. if may then Gives flow.Enters n else after (gate_waited at n) (λ done o. after (parked t kind o) (λ done p. blocked t blocked_at.Entry false reason.Entry p))) (may_enter_stays at kind true m) (λ may n. flows_if n (may) (Gives flow.Enters n) (after (gate_waited at n) (λ done o. after (parked t kind o) (λ done p. blocked t blocked_at.Entry false reason.Entry p))) (flows_same n) (flows_after n (gate_waited at n) (λ done o. after (parked t kind o) (λ done p. blocked t blocked_at.Entry false reason.Entry p)) (gate_waited_stays at n) (λ done o. flows_after o (parked t kind o) (λ done p. blocked t blocked_at.Entry false reason.Entry p) (parked_stays t kind o) (λ done p. blocked_stays t blocked_at.Entry false reason.Entry p)))))))

pub unwaited_stays : (t : ℕ) (at : ℕ) (h : Held) → StaysBy h (unwaited t at h)
unwaited_stays t at h =
    stays_after h (gate_unwaited at h) (λ done k. unparked t k) (gate_unwaited_stays at h) (λ done k. unparked_stays t k)

pub unwaited_if_stays : (waits : Bool) (t : ℕ) (at : ℕ) (h : Held) → StaysBy h (unwaited_if waits t at h)
unwaited_if_stays waits t at h =
    stays_if h (waits) (unwaited t at h) (Gives (tt {0}) h) (unwaited_stays t at h) (stays_same h)

pub enters_stays : (t : ℕ) (h : Held) → StaysBy h (enters t h)
unfolding enters
enters_stays t h =
    stays_after h (instance_of t h) (λ at k. after (kind_of t k) (λ kind l. after (phase_of t l) (λ far m. after (unwaited_if (waits_to_enter far) t at m) (λ done n. after (gate_entered at t kind n) (λ done o. after (happens t event.Enter o) (λ done p. after (raised t state.Started p) (λ done q. told (line.Enter t) q))))))) (instance_of_stays t h) (λ at k. stays_after k (kind_of t k) (λ kind l. after (phase_of t l) (λ far m. after (unwaited_if (waits_to_enter far) t at m) (λ done n. after (gate_entered at t kind n) (λ done o. after (happens t event.Enter o) (λ done p. after (raised t state.Started p) (λ done q. told (line.Enter t) q)))))) (kind_of_stays t k) (λ kind l. stays_after l (phase_of t l) (λ far m. after (unwaited_if (waits_to_enter far) t at m) (λ done n. after (gate_entered at t kind n) (λ done o. after (happens t event.Enter o) (λ done p. after (raised t state.Started p) (λ done q. told (line.Enter t) q))))) (phase_of_stays t l) (λ far m. stays_after m (unwaited_if (waits_to_enter far) t at m) (λ done n. after (gate_entered at t kind n) (λ done o. after (happens t event.Enter o) (λ done p. after (raised t state.Started p) (λ done q. told (line.Enter t) q)))) (unwaited_if_stays (waits_to_enter far) t at m) (λ done n. stays_after n (gate_entered at t kind n) (λ done o. after (happens t event.Enter o) (λ done p. after (raised t state.Started p) (λ done q. told (line.Enter t) q))) (gate_entered_stays at t kind n) (λ done o. stays_after o (happens t event.Enter o) (λ done p. after (raised t state.Started p) (λ done q. told (line.Enter t) q)) (happens_stays t event.Enter o) (λ done p. stays_after p (raised t state.Started p) (λ done q. told (line.Enter t) q) (raised_stays t state.Started p) (λ done q. told_stays (line.Enter t) q)))))))

pub leaves_stays : (h : Held) → FlowsBy h (leaves h)
unfolding leaves
leaves_stays h =
    flows_after h (acting h) (λ t k. after (instance_of t k) (λ at l. after (happens t event.Exit l) (λ done m. after (gate_given_up at t m) (λ done n. after (closed t n) (λ done o. after (told (line.Exit t) o) (λ done p. left_chain p)))))) (acting_stays h) (λ t k. flows_after k (instance_of t k) (λ at l. after (happens t event.Exit l) (λ done m. after (gate_given_up at t m) (λ done n. after (closed t n) (λ done o. after (told (line.Exit t) o) (λ done p. left_chain p))))) (instance_of_stays t k) (λ at l. flows_after l (happens t event.Exit l) (λ done m. after (gate_given_up at t m) (λ done n. after (closed t n) (λ done o. after (told (line.Exit t) o) (λ done p. left_chain p)))) (happens_stays t event.Exit l) (λ done m. flows_after m (gate_given_up at t m) (λ done n. after (closed t n) (λ done o. after (told (line.Exit t) o) (λ done p. left_chain p))) (gate_given_up_stays at t m) (λ done n. flows_after n (closed t n) (λ done o. after (told (line.Exit t) o) (λ done p. left_chain p)) (closed_stays t n) (λ done o. flows_after o (told (line.Exit t) o) (λ done p. left_chain p) (told_stays (line.Exit t) o) (λ done p. left_chain_stays p))))))

pub ending_stays : (t : ℕ) (h : Held) → FlowsBy h (ending t h)
unfolding ending
ending_stays t h =
    flows_after h (resolution_of t h) (λ resolution k. if is_none resolution then Traps trap.Unresolved k else Gives flow.Rests (at_rest rest.Leaves k)) (resolution_of_stays t h) (λ resolution k. flows_if k (is_none resolution) (Traps trap.Unresolved k) (Gives flow.Rests (at_rest rest.Leaves k)) tt (flows_all k (at_rest rest.Leaves k) refl refl))

pub looped_stays : (t : ℕ) (at : ℕ) (word : ℕ) (why : BlockReason) (h : Held) → FlowsBy h (looped t at word why h)
unfolding looped
looped_stays t at word why h =
    flows_after h (gate_given_up at t h) (λ done k. blocked t (blocked_at.Loop word) false why k) (gate_given_up_stays at t h) (λ done k. blocked_stays t (blocked_at.Loop word) false why k)

pub looped_at_set_stays : (t : ℕ) (at : ℕ) (word : ℕ) (index : ℕ) (why : BlockReason) (h : Held) → FlowsBy h (looped_at_set t at word index why h)
unfolding looped_at_set
looped_at_set_stays t at word index why h =
    flows_after h (set_found at index h) (λ set k. after (set_waited_on at set k) (λ done l. looped t at word why l)) (set_found_stays at index h) (λ set k. flows_after k (set_waited_on at set k) (λ done l. looped t at word why l) (set_waited_on_stays at set k) (λ done l. looped_stays t at word why l))

pub loops_by_stays : (t : ℕ) (at : ℕ) (word : ℕ) (r : Result Next BadCode) (h : Held) → FlowsBy h (loops_by t at word r h)
loops_by_stays t at word (Err why) h =
    tt
loops_by_stays t at word (Ok next.Exit) h =
    ending_stays t h
loops_by_stays t at word (Ok next.Yield) h =
    looped_stays t at word reason.Yield h
loops_by_stays t at word (Ok (next.Wait set)) h =
    looped_at_set_stays t at word set (reason.Wait set) h
loops_by_stays t at word (Ok (next.Poll set)) h =
    looped_at_set_stays t at word set (reason.Poll set) h

pub loops_stays : (t : ℕ) (word : ℕ) (h : Held) → FlowsBy h (loops t word h)
unfolding loops
loops_stays t word h =
    flows_after h (instance_of t h) (λ at k. loops_by t at word (callback_of word) k) (instance_of_stays t h) (λ at k. loops_by_stays t at word (callback_of word) k)

pub loop_resumed_at_stays : (at : ℕ) (is_asked : Bool) (polls : Bool) (index : ℕ) (h : Held) → FlowsBy h (loop_resumed_at at is_asked polls index h)
unfolding loop_resumed_at
loop_resumed_at_stays at is_asked polls index h =
    flows_after h (set_known at index h) (λ set k. after (set_waited_off at set k) (λ done l. Gives (loop_flow is_asked polls set) l)) (set_known_stays at index h) (λ set k. flows_after k (set_waited_off at set k) (λ done l. Gives (loop_flow is_asked polls set) l) (set_waited_off_stays at set k) (λ done l. flows_same l))

pub loop_resumed_by_stays : (at : ℕ) (is_asked : Bool) (r : Result Next BadCode) (h : Held) → FlowsBy h (loop_resumed_by at is_asked r h)
loop_resumed_by_stays at is_asked (Err why) h =
    tt
loop_resumed_by_stays at is_asked (Ok next.Exit) h =
    tt
loop_resumed_by_stays at is_asked (Ok next.Yield) h =
    flows_same h
loop_resumed_by_stays at is_asked (Ok (next.Wait index)) h =
    loop_resumed_at_stays at is_asked false index h
loop_resumed_by_stays at is_asked (Ok (next.Poll index)) h =
    loop_resumed_at_stays at is_asked true index h

pub loop_resumed_stays : (t : ℕ) (at : ℕ) (word : ℕ) (h : Held) → FlowsBy h (loop_resumed t at word h)
unfolding loop_resumed
loop_resumed_stays t at word h =
    flows_after h (asked t h) (λ is_asked k. after (happens t event.Go k) (λ done l. after (gate_taken_back at t l) (λ done m. loop_resumed_by at is_asked (callback_of word) m))) (asked_stays t h) (λ is_asked k. flows_after k (happens t event.Go k) (λ done l. after (gate_taken_back at t l) (λ done m. loop_resumed_by at is_asked (callback_of word) m)) (happens_stays t event.Go k) (λ done l. flows_after l (gate_taken_back at t l) (λ done m. loop_resumed_by at is_asked (callback_of word) m) (gate_taken_back_stays at t l) (λ done m. loop_resumed_by_stays at is_asked (callback_of word) m)))

pub yield_resumed_stays : (t : ℕ) (told_so : Bool) (h : Held) → FlowsBy h (yield_resumed t told_so h)
unfolding yield_resumed
yield_resumed_stays t told_so h =
    flows_if h (told_so) (yield_cancelled t h) (got t (0 ∷ []) h) (yield_cancelled_stays t h) (got_stays t (0 ∷ []) h)

pub set_resumed_stays : (at : ℕ) (canon : ℕ) (told_so : Bool) (index : ℕ) (place : ℕ) (h : Held) → FlowsBy h (set_resumed at canon told_so index place h)
unfolding set_resumed
set_resumed_stays at canon told_so index place h =
    flows_after h (set_known at index h) (λ set k. after (set_waited_off at set k) (λ done l. Gives (set_flow told_so canon place set) l)) (set_known_stays at index h) (λ set k. flows_after k (set_waited_off at set k) (λ done l. Gives (set_flow told_so canon place set) l) (set_waited_off_stays at set k) (λ done l. flows_same l))

pub call_resumed_stays : (t : ℕ) (at : ℕ) (callee : ℕ) (h : Held) → FlowsBy h (call_resumed t at callee h)
unfolding call_resumed
call_resumed_stays t at callee h =
    flows_after h (result_found callee h) (λ words k. after (subtask_told at callee k) (λ payload l. got t words l)) (result_found_stays callee h) (λ words k. flows_after k (subtask_told at callee k) (λ payload l. got t words l) (subtask_told_stays at callee k) (λ payload l. got_stays t words l))

pub cancel_resumed_stays : (t : ℕ) (at : ℕ) (index : ℕ) (h : Held) → FlowsBy h (cancel_resumed t at index h)
unfolding cancel_resumed
cancel_resumed_stays t at index h =
    flows_after h (subtask_known at index h) (λ callee k. after (awaited callee false k) (λ done l. after (subtask_told at callee l) (λ payload m. got t (payload ∷ []) m))) (subtask_known_stays at index h) (λ callee k. flows_after k (awaited callee false k) (λ done l. after (subtask_told at callee l) (λ payload m. got t (payload ∷ []) m)) (awaited_stays callee false k) (λ done l. flows_after l (subtask_told at callee l) (λ payload m. got t (payload ∷ []) m) (subtask_told_stays at callee l) (λ payload m. got_stays t (payload ∷ []) m)))

pub copy_resumed_of_stays : (t : ℕ) (at : ℕ) (index : ℕ) (o : Option WorldEntry) (h : Held) → FlowsBy h (copy_resumed_of t at index o h)
copy_resumed_of_stays t at index None h =
    tt
copy_resumed_of_stays t at index (Some (entry.Handle x)) h =
    tt
copy_resumed_of_stays t at index (Some (entry.Subtask callee)) h =
    tt
copy_resumed_of_stays t at index (Some (entry.Set set)) h =
    tt
copy_resumed_of_stays t at index (Some (entry.End e)) h =
    flows_after h (end_told at index e h) (λ payload k. got t (payload ∷ []) k) (end_told_stays at index e h) (λ payload k. got_stays t (payload ∷ []) k)

pub copy_resumed_stays : (t : ℕ) (at : ℕ) (index : ℕ) (h : Held) → FlowsBy h (copy_resumed t at index h)
unfolding copy_resumed
copy_resumed_stays t at index h =
    flows_after h (entry_found at index h) (λ found k. copy_resumed_of t at index found k) (entry_found_stays at index h) (λ found k. copy_resumed_of_stays t at index found k)

pub wait_resumed_stays : (t : ℕ) (at : ℕ) (canon : ℕ) (told_so : Bool) (place : ℕ) (why : BlockedAt) (h : Held) → FlowsBy h (wait_resumed t at canon told_so place why h)
wait_resumed_stays t at canon told_so place blocked_at.Entry h =
    tt
wait_resumed_stays t at canon told_so place (blocked_at.Loop word) h =
    tt
wait_resumed_stays t at canon told_so place blocked_at.Yield h =
    yield_resumed_stays t told_so h
wait_resumed_stays t at canon told_so place (blocked_at.Set index) h =
    set_resumed_stays at canon told_so index place h
wait_resumed_stays t at canon told_so place (blocked_at.Call callee) h =
    call_resumed_stays t at callee h
wait_resumed_stays t at canon told_so place (blocked_at.Copy index) h =
    copy_resumed_stays t at index h
wait_resumed_stays t at canon told_so place (blocked_at.Cancel index) h =
    cancel_resumed_stays t at index h

pub place_of_stays : (t : ℕ) (why : BlockedAt) (h : Held) → StaysBy h (place_of t why h)
place_of_stays t blocked_at.Entry h =
    stays_same h
place_of_stays t (blocked_at.Loop word) h =
    stays_same h
place_of_stays t blocked_at.Yield h =
    stays_same h
place_of_stays t (blocked_at.Set index) h =
    word_of_stays t 1 h
place_of_stays t (blocked_at.Call callee) h =
    stays_same h
place_of_stays t (blocked_at.Copy index) h =
    stays_same h
place_of_stays t (blocked_at.Cancel index) h =
    stays_same h

pub builtin_resumed_stays : (t : ℕ) (at : ℕ) (canon : ℕ) (why : BlockedAt) (h : Held) → FlowsBy h (builtin_resumed t at canon why h)
unfolding builtin_resumed
builtin_resumed_stays t at canon why h =
    flows_after h (to_be_told t h) (λ told_so k. after (place_of t why k) (λ place l. after (happens t event.Go l) (λ done m. after (errand_set t errand.None m) (λ done n. wait_resumed t at canon told_so place why n)))) (to_be_told_stays t h) (λ told_so k. flows_after k (place_of t why k) (λ place l. after (happens t event.Go l) (λ done m. after (errand_set t errand.None m) (λ done n. wait_resumed t at canon told_so place why n))) (place_of_stays t why k) (λ place l. flows_after l (happens t event.Go l) (λ done m. after (errand_set t errand.None m) (λ done n. wait_resumed t at canon told_so place why n)) (happens_stays t event.Go l) (λ done m. flows_after m (errand_set t errand.None m) (λ done n. wait_resumed t at canon told_so place why n) (errand_set_stays t errand.None m) (λ done n. wait_resumed_stays t at canon told_so place why n))))

pub resumed_in_stays : (t : ℕ) (at : ℕ) (why : BlockedAt) (e : Errand) (h : Held) → FlowsBy h (resumed_in t at why e h)
resumed_in_stays t at why errand.None h =
    tt
resumed_in_stays t at why (errand.AfterCall callee canon) h =
    tt
resumed_in_stays t at why (errand.AfterCancel callee canon index) h =
    tt
resumed_in_stays t at why (errand.Begins n) h =
    tt
resumed_in_stays t at why (errand.InBuiltin canon) h =
    builtin_resumed_stays t at canon why h

pub resumed_from_stays : (t : ℕ) (at : ℕ) (why : BlockedAt) (h : Held) → FlowsBy h (resumed_from t at why h)
unfolding resumed_from
resumed_from_stays t at why h =
    flows_after h (errand_of t h) (λ e k. resumed_in t at why e k) (errand_of_stays t h) (λ e k. resumed_in_stays t at why e k)

pub resumed_by_stays : (t : ℕ) (at : ℕ) (far : Phase) (h : Held) → FlowsBy h (resumed_by t at far h)
resumed_by_stays t at phase.New h =
    tt
resumed_by_stays t at phase.Acting h =
    tt
resumed_by_stays t at (phase.Blocked blocked_at.Entry flag) h =
    flows_same h
resumed_by_stays t at (phase.Blocked (blocked_at.Loop word) flag) h =
    loop_resumed_stays t at word h
resumed_by_stays t at (phase.Blocked blocked_at.Yield flag) h =
    resumed_from_stays t at blocked_at.Yield h
resumed_by_stays t at (phase.Blocked (blocked_at.Set index) flag) h =
    resumed_from_stays t at (blocked_at.Set index) h
resumed_by_stays t at (phase.Blocked (blocked_at.Call callee) flag) h =
    resumed_from_stays t at (blocked_at.Call callee) h
resumed_by_stays t at (phase.Blocked (blocked_at.Copy index) flag) h =
    resumed_from_stays t at (blocked_at.Copy index) h
resumed_by_stays t at (phase.Blocked (blocked_at.Cancel index) flag) h =
    resumed_from_stays t at (blocked_at.Cancel index) h
resumed_by_stays t at phase.Exited h =
    tt

pub resumes_stays : (h : Held) → FlowsBy h (resumes h)
unfolding resumes
resumes_stays h =
    flows_after h (acting h) (λ t k. after (instance_of t k) (λ at l. after (phase_of t l) (λ far m. resumed_by t at far m))) (acting_stays h) (λ t k. flows_after k (instance_of t k) (λ at l. after (phase_of t l) (λ far m. resumed_by t at far m)) (instance_of_stays t k) (λ at l. flows_after l (phase_of t l) (λ far m. resumed_by t at far m) (phase_of_stays t l) (λ far m. resumed_by_stays t at far m)))
