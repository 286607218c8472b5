-- How tasks enter, go on and exit: what is kept well stays so.
use Rattle.std.proofs.Common.{refl, Some}
use Rattle.std.specs.Prelude.{ℕ, Bool, false, true, is_none, if◌then◌else◌, [], ◌∷◌, Option, Some, None, Result, Ok, Err}
use Rattle.entry_gate.specs.Callbacks.{callback_of}
use Rattle.entry_gate.specs.declared.callback.BadCode.{BadCode}
use Rattle.entry_gate.specs.declared.callback.Next.{Next}
use Rattle.entry_gate.specs.declared.callback.Next.TheVariants as next
use Rattle.tasks.specs.declared.event.BlockedAt.{BlockedAt}
use Rattle.tasks.specs.declared.event.BlockedAt.TheVariants as blocked_at
use Rattle.tasks.specs.declared.event.TaskEvent.TheVariants as event
use Rattle.tasks.specs.declared.phase.Phase.{Phase}
use Rattle.tasks.specs.declared.phase.Phase.TheVariants as phase
use Rattle.tasks.specs.declared.subtask_state.SubtaskState.TheVariants as state
use Rattle.task_table.specs.declared.errand.Errand.{Errand}
use Rattle.task_table.specs.declared.errand.Errand.TheVariants as errand
use Rattle.instances.specs.declared.entry.WorldEntry.{WorldEntry}
use Rattle.instances.specs.declared.entry.WorldEntry.TheVariants as entry
use Rattle.trace_labels.specs.declared.label.BlockReason.{BlockReason}
use Rattle.trace_labels.specs.declared.label.BlockReason.TheVariants as reason
use Rattle.trace_labels.specs.declared.label.Label.TheVariants as line
use Rattle.trace_labels.specs.declared.trap.TrapName.TheVariants as trap
use Rattle.world_parts.specs.declared.parts.Rest.TheVariants as rest
use Rattle.world_parts.specs.declared.parts.Flow.TheVariants as flow
use Rattle.world_parts.specs.Held.{Held, Gives, Traps, after}
use Rattle.world_parts.specs.Feed.{told, at_rest, acting, left_chain, got}
use Rattle.world_parts.specs.Entries.{entry_found, subtask_known, set_found, set_known, set_waited_on, set_waited_off}
use Rattle.world_parts.specs.Gates.{may_enter, gate_waited, gate_unwaited, gate_entered, gate_given_up, gate_taken_back}
use Rattle.world_parts.specs.Slots.{instance_of, kind_of, phase_of, resolution_of, errand_of, asked, to_be_told, happens, errand_set, raised, awaited, result_found, closed, parked, unparked}
use Rattle.world_parts.specs.Calls.{blocked, subtask_told}
use Rattle.world_parts.specs.Plain.{yield_cancelled}
use Rattle.world_parts.specs.Events.{end_told}
use Rattle.world_parts.specs.Going.{arrives, builtin_resumed, call_resumed, cancel_resumed, copy_resumed, copy_resumed_of, ending, enters, leaves, loop_flow, loop_resumed, loop_resumed_at, loop_resumed_by, looped, looped_at_set, loops, loops_by, place_of, resumed_by, resumed_from, resumed_in, resumes, set_flow, set_resumed, unwaited, unwaited_if, wait_resumed, waits_to_enter, yield_resumed}
use Rattle.run_laws.specs.keeping.Well.{KeepsWell}
use Rattle.run_laws.proofs.well.Calls.{blocked_well, subtask_told_well}
use Rattle.run_laws.proofs.well.Entries.{entry_found_well, set_found_well, set_known_well, set_waited_off_well, set_waited_on_well, subtask_known_well}
use Rattle.run_laws.proofs.well.Events.{end_told_well}
use Rattle.run_laws.proofs.well.Feed.{acting_well, got_well, left_chain_well, told_well}
use Rattle.run_laws.proofs.well.Gates.{gate_entered_well, gate_given_up_well, gate_taken_back_well, gate_unwaited_well, gate_waited_well, may_enter_well}
use Rattle.run_laws.proofs.well.Plain.{yield_cancelled_well}
use Rattle.run_laws.proofs.well.Slots.{asked_well, closed_well, unawaited_well, errand_of_well, errand_set_well, happens_well, instance_of_well, kind_of_well, parked_well, phase_of_well, raised_well, resolution_of_well, result_found_well, to_be_told_well, unparked_well, word_of_well}
use Rattle.run_laws.proofs.well.Behind.{well_after, well_if, well_same, well_all}

pub arrives_well : (h : Held) → KeepsWell h (arrives h)
unfolding arrives
arrives_well h =
    well_after h (acting h) (λ t k. after (instance_of t k) (λ at l. after (kind_of t l) (λ kind m. after (may_enter at kind true m) (λ may n. if may then Gives flow.Enters n else after (gate_waited at n) (λ done o. after (parked t kind o) (λ done p. blocked t blocked_at.Entry false reason.Entry p)))))) (acting_well h) (λ t k. well_after k (instance_of t k) (λ at l. after (kind_of t l) (λ kind m. after (may_enter at kind true m) (λ may n. if may then Gives flow.Enters n else after (gate_waited at n) (λ done o. after (parked t kind o) (λ done p. blocked t blocked_at.Entry false reason.Entry p))))) (instance_of_well t k) (λ at l. well_after l (kind_of t l) (λ kind m. after (may_enter at kind true m) (λ may n. if may then Gives flow.Enters n else after (gate_waited at n) (λ done o. after (parked t kind o) (λ done p. blocked t blocked_at.Entry false reason.Entry p)))) (kind_of_well t l) (λ kind m. well_after m (may_enter at kind true m) (λ may n. if may then Gives flow.Enters n else after (gate_waited at n) (λ done o. after (parked t kind o) (λ done p. blocked t blocked_at.Entry false reason.Entry p))) (may_enter_well at kind true m) (λ may n. well_if n (may) (Gives flow.Enters n) (after (gate_waited at n) (λ done o. after (parked t kind o) (λ done p. blocked t blocked_at.Entry false reason.Entry p))) (well_same n) (well_after n (gate_waited at n) (λ done o. after (parked t kind o) (λ done p. blocked t blocked_at.Entry false reason.Entry p)) (gate_waited_well at n) (λ done o. well_after o (parked t kind o) (λ done p. blocked t blocked_at.Entry false reason.Entry p) (parked_well t kind o) (λ done p. blocked_well t blocked_at.Entry false reason.Entry p)))))))

pub unwaited_well : (t : ℕ) (at : ℕ) (h : Held) → KeepsWell h (unwaited t at h)
unwaited_well t at h =
    well_after h (gate_unwaited at h) (λ done k. unparked t k) (gate_unwaited_well at h) (λ done k. unparked_well t k)

pub unwaited_if_well : (waits : Bool) (t : ℕ) (at : ℕ) (h : Held) → KeepsWell h (unwaited_if waits t at h)
unwaited_if_well waits t at h =
    well_if h (waits) (unwaited t at h) (Gives (tt {0}) h) (unwaited_well t at h) (well_same h)

pub enters_well : (t : ℕ) (h : Held) → KeepsWell h (enters t h)
unfolding enters
enters_well t h =
    well_after h (instance_of t h) (λ at k. after (kind_of t k) (λ kind l. after (phase_of t l) (λ far m. after (unwaited_if (waits_to_enter far) t at m) (λ done n. after (gate_entered at t kind n) (λ done o. after (happens t event.Enter o) (λ done p. after (raised t state.Started p) (λ done q. told (line.Enter t) q))))))) (instance_of_well t h) (λ at k. well_after k (kind_of t k) (λ kind l. after (phase_of t l) (λ far m. after (unwaited_if (waits_to_enter far) t at m) (λ done n. after (gate_entered at t kind n) (λ done o. after (happens t event.Enter o) (λ done p. after (raised t state.Started p) (λ done q. told (line.Enter t) q)))))) (kind_of_well t k) (λ kind l. well_after l (phase_of t l) (λ far m. after (unwaited_if (waits_to_enter far) t at m) (λ done n. after (gate_entered at t kind n) (λ done o. after (happens t event.Enter o) (λ done p. after (raised t state.Started p) (λ done q. told (line.Enter t) q))))) (phase_of_well t l) (λ far m. well_after m (unwaited_if (waits_to_enter far) t at m) (λ done n. after (gate_entered at t kind n) (λ done o. after (happens t event.Enter o) (λ done p. after (raised t state.Started p) (λ done q. told (line.Enter t) q)))) (unwaited_if_well (waits_to_enter far) t at m) (λ done n. well_after n (gate_entered at t kind n) (λ done o. after (happens t event.Enter o) (λ done p. after (raised t state.Started p) (λ done q. told (line.Enter t) q))) (gate_entered_well at t kind n) (λ done o. well_after o (happens t event.Enter o) (λ done p. after (raised t state.Started p) (λ done q. told (line.Enter t) q)) (happens_well t event.Enter o) (λ done p. well_after p (raised t state.Started p) (λ done q. told (line.Enter t) q) (raised_well t state.Started p) (λ done q. told_well (line.Enter t) q)))))))

pub leaves_well : (h : Held) → KeepsWell h (leaves h)
unfolding leaves
leaves_well h =
    well_after h (acting h) (λ t k. after (instance_of t k) (λ at l. after (happens t event.Exit l) (λ done m. after (gate_given_up at t m) (λ done n. after (closed t n) (λ done o. after (told (line.Exit t) o) (λ done p. left_chain p)))))) (acting_well h) (λ t k. well_after k (instance_of t k) (λ at l. after (happens t event.Exit l) (λ done m. after (gate_given_up at t m) (λ done n. after (closed t n) (λ done o. after (told (line.Exit t) o) (λ done p. left_chain p))))) (instance_of_well t k) (λ at l. well_after l (happens t event.Exit l) (λ done m. after (gate_given_up at t m) (λ done n. after (closed t n) (λ done o. after (told (line.Exit t) o) (λ done p. left_chain p)))) (happens_well t event.Exit l) (λ done m. well_after m (gate_given_up at t m) (λ done n. after (closed t n) (λ done o. after (told (line.Exit t) o) (λ done p. left_chain p))) (gate_given_up_well at t m) (λ done n. well_after n (closed t n) (λ done o. after (told (line.Exit t) o) (λ done p. left_chain p)) (closed_well t n) (λ done o. well_after o (told (line.Exit t) o) (λ done p. left_chain p) (told_well (line.Exit t) o) (λ done p. left_chain_well p))))))

pub ending_well : (t : ℕ) (h : Held) → KeepsWell h (ending t h)
unfolding ending
ending_well t h =
    well_after h (resolution_of t h) (λ resolution k. if is_none resolution then Traps trap.Unresolved k else Gives flow.Rests (at_rest rest.Leaves k)) (resolution_of_well t h) (λ resolution k. well_if k (is_none resolution) (Traps trap.Unresolved k) (Gives flow.Rests (at_rest rest.Leaves k)) tt (well_all k (at_rest rest.Leaves k) refl))

pub looped_well : (t : ℕ) (at : ℕ) (word : ℕ) (why : BlockReason) (h : Held) → KeepsWell h (looped t at word why h)
unfolding looped
looped_well t at word why h =
    well_after h (gate_given_up at t h) (λ done k. blocked t (blocked_at.Loop word) false why k) (gate_given_up_well at t h) (λ done k. blocked_well t (blocked_at.Loop word) false why k)

pub looped_at_set_well : (t : ℕ) (at : ℕ) (word : ℕ) (index : ℕ) (why : BlockReason) (h : Held) → KeepsWell h (looped_at_set t at word index why h)
unfolding looped_at_set
looped_at_set_well t at word index why h =
    well_after h (set_found at index h) (λ set k. after (set_waited_on at set k) (λ done l. looped t at word why l)) (set_found_well at index h) (λ set k. well_after k (set_waited_on at set k) (λ done l. looped t at word why l) (set_waited_on_well at set k) (λ done l. looped_well t at word why l))

pub loops_by_well : (t : ℕ) (at : ℕ) (word : ℕ) (r : Result Next BadCode) (h : Held) → KeepsWell h (loops_by t at word r h)
loops_by_well t at word (Err why) h =
    tt
loops_by_well t at word (Ok next.Exit) h =
    ending_well t h
loops_by_well t at word (Ok next.Yield) h =
    looped_well t at word reason.Yield h
loops_by_well t at word (Ok (next.Wait set)) h =
    looped_at_set_well t at word set (reason.Wait set) h
loops_by_well t at word (Ok (next.Poll set)) h =
    looped_at_set_well t at word set (reason.Poll set) h

pub loops_well : (t : ℕ) (word : ℕ) (h : Held) → KeepsWell h (loops t word h)
unfolding loops
loops_well t word h =
    well_after h (instance_of t h) (λ at k. loops_by t at word (callback_of word) k) (instance_of_well t h) (λ at k. loops_by_well t at word (callback_of word) k)

pub loop_resumed_at_well : (at : ℕ) (is_asked : Bool) (polls : Bool) (index : ℕ) (h : Held) → KeepsWell h (loop_resumed_at at is_asked polls index h)
unfolding loop_resumed_at
loop_resumed_at_well at is_asked polls index h =
    well_after h (set_known at index h) (λ set k. after (set_waited_off at set k) (λ done l. Gives (loop_flow is_asked polls set) l)) (set_known_well at index h) (λ set k. well_after k (set_waited_off at set k) (λ done l. Gives (loop_flow is_asked polls set) l) (set_waited_off_well at set k) (λ done l. well_same l))

pub loop_resumed_by_well : (at : ℕ) (is_asked : Bool) (r : Result Next BadCode) (h : Held) → KeepsWell h (loop_resumed_by at is_asked r h)
loop_resumed_by_well at is_asked (Err why) h =
    tt
loop_resumed_by_well at is_asked (Ok next.Exit) h =
    tt
loop_resumed_by_well at is_asked (Ok next.Yield) h =
    well_same h
loop_resumed_by_well at is_asked (Ok (next.Wait index)) h =
    loop_resumed_at_well at is_asked false index h
loop_resumed_by_well at is_asked (Ok (next.Poll index)) h =
    loop_resumed_at_well at is_asked true index h

pub loop_resumed_well : (t : ℕ) (at : ℕ) (word : ℕ) (h : Held) → KeepsWell h (loop_resumed t at word h)
unfolding loop_resumed
loop_resumed_well t at word h =
    well_after h (asked t h) (λ is_asked k. after (happens t event.Go k) (λ done l. after (gate_taken_back at t l) (λ done m. loop_resumed_by at is_asked (callback_of word) m))) (asked_well t h) (λ is_asked k. well_after k (happens t event.Go k) (λ done l. after (gate_taken_back at t l) (λ done m. loop_resumed_by at is_asked (callback_of word) m)) (happens_well t event.Go k) (λ done l. well_after l (gate_taken_back at t l) (λ done m. loop_resumed_by at is_asked (callback_of word) m) (gate_taken_back_well at t l) (λ done m. loop_resumed_by_well at is_asked (callback_of word) m)))

pub yield_resumed_well : (t : ℕ) (told_so : Bool) (h : Held) → KeepsWell h (yield_resumed t told_so h)
unfolding yield_resumed
yield_resumed_well t told_so h =
    well_if h (told_so) (yield_cancelled t h) (got t (0 ∷ []) h) (yield_cancelled_well t h) (got_well t (0 ∷ []) h)

pub set_resumed_well : (at : ℕ) (canon : ℕ) (told_so : Bool) (index : ℕ) (place : ℕ) (h : Held) → KeepsWell h (set_resumed at canon told_so index place h)
unfolding set_resumed
set_resumed_well at canon told_so index place h =
    well_after h (set_known at index h) (λ set k. after (set_waited_off at set k) (λ done l. Gives (set_flow told_so canon place set) l)) (set_known_well at index h) (λ set k. well_after k (set_waited_off at set k) (λ done l. Gives (set_flow told_so canon place set) l) (set_waited_off_well at set k) (λ done l. well_same l))

pub call_resumed_well : (t : ℕ) (at : ℕ) (callee : ℕ) (h : Held) → KeepsWell h (call_resumed t at callee h)
unfolding call_resumed
call_resumed_well t at callee h =
    well_after h (result_found callee h) (λ words k. after (subtask_told at callee k) (λ payload l. got t words l)) (result_found_well callee h) (λ words k. well_after k (subtask_told at callee k) (λ payload l. got t words l) (subtask_told_well at callee k) (λ payload l. got_well t words l))

pub cancel_resumed_well : (t : ℕ) (at : ℕ) (index : ℕ) (h : Held) → KeepsWell h (cancel_resumed t at index h)
unfolding cancel_resumed
cancel_resumed_well t at index h =
    well_after h (subtask_known at index h) (λ callee k. after (awaited callee false k) (λ done l. after (subtask_told at callee l) (λ payload m. got t (payload ∷ []) m))) (subtask_known_well at index h) (λ callee k. well_after k (awaited callee false k) (λ done l. after (subtask_told at callee l) (λ payload m. got t (payload ∷ []) m)) (unawaited_well callee k) (λ done l. well_after l (subtask_told at callee l) (λ payload m. got t (payload ∷ []) m) (subtask_told_well at callee l) (λ payload m. got_well t (payload ∷ []) m)))

pub copy_resumed_of_well : (t : ℕ) (at : ℕ) (index : ℕ) (o : Option WorldEntry) (h : Held) → KeepsWell h (copy_resumed_of t at index o h)
copy_resumed_of_well t at index None h =
    tt
copy_resumed_of_well t at index (Some (entry.Handle x)) h =
    tt
copy_resumed_of_well t at index (Some (entry.Subtask callee)) h =
    tt
copy_resumed_of_well t at index (Some (entry.Set set)) h =
    tt
copy_resumed_of_well t at index (Some (entry.End e)) h =
    well_after h (end_told at index e h) (λ payload k. got t (payload ∷ []) k) (end_told_well at index e h) (λ payload k. got_well t (payload ∷ []) k)

pub copy_resumed_well : (t : ℕ) (at : ℕ) (index : ℕ) (h : Held) → KeepsWell h (copy_resumed t at index h)
unfolding copy_resumed
copy_resumed_well t at index h =
    well_after h (entry_found at index h) (λ found k. copy_resumed_of t at index found k) (entry_found_well at index h) (λ found k. copy_resumed_of_well t at index found k)

pub wait_resumed_well : (t : ℕ) (at : ℕ) (canon : ℕ) (told_so : Bool) (place : ℕ) (why : BlockedAt) (h : Held) → KeepsWell h (wait_resumed t at canon told_so place why h)
wait_resumed_well t at canon told_so place blocked_at.Entry h =
    tt
wait_resumed_well t at canon told_so place (blocked_at.Loop word) h =
    tt
wait_resumed_well t at canon told_so place blocked_at.Yield h =
    yield_resumed_well t told_so h
wait_resumed_well t at canon told_so place (blocked_at.Set index) h =
    set_resumed_well at canon told_so index place h
wait_resumed_well t at canon told_so place (blocked_at.Call callee) h =
    call_resumed_well t at callee h
wait_resumed_well t at canon told_so place (blocked_at.Copy index) h =
    copy_resumed_well t at index h
wait_resumed_well t at canon told_so place (blocked_at.Cancel index) h =
    cancel_resumed_well t at index h

pub place_of_well : (t : ℕ) (why : BlockedAt) (h : Held) → KeepsWell h (place_of t why h)
place_of_well t blocked_at.Entry h =
    well_same h
place_of_well t (blocked_at.Loop word) h =
    well_same h
place_of_well t blocked_at.Yield h =
    well_same h
place_of_well t (blocked_at.Set index) h =
    word_of_well t 1 h
place_of_well t (blocked_at.Call callee) h =
    well_same h
place_of_well t (blocked_at.Copy index) h =
    well_same h
place_of_well t (blocked_at.Cancel index) h =
    well_same h

pub builtin_resumed_well : (t : ℕ) (at : ℕ) (canon : ℕ) (why : BlockedAt) (h : Held) → KeepsWell h (builtin_resumed t at canon why h)
unfolding builtin_resumed
builtin_resumed_well t at canon why h =
    well_after h (to_be_told t h) (λ told_so k. after (place_of t why k) (λ place l. after (happens t event.Go l) (λ done m. after (errand_set t errand.None m) (λ done n. wait_resumed t at canon told_so place why n)))) (to_be_told_well t h) (λ told_so k. well_after k (place_of t why k) (λ place l. after (happens t event.Go l) (λ done m. after (errand_set t errand.None m) (λ done n. wait_resumed t at canon told_so place why n))) (place_of_well t why k) (λ place l. well_after l (happens t event.Go l) (λ done m. after (errand_set t errand.None m) (λ done n. wait_resumed t at canon told_so place why n)) (happens_well t event.Go l) (λ done m. well_after m (errand_set t errand.None m) (λ done n. wait_resumed t at canon told_so place why n) (errand_set_well t errand.None m tt) (λ done n. wait_resumed_well t at canon told_so place why n))))

pub resumed_in_well : (t : ℕ) (at : ℕ) (why : BlockedAt) (e : Errand) (h : Held) → KeepsWell h (resumed_in t at why e h)
resumed_in_well t at why errand.None h =
    tt
resumed_in_well t at why (errand.AfterCall callee canon) h =
    tt
resumed_in_well t at why (errand.AfterCancel callee canon index) h =
    tt
resumed_in_well t at why (errand.Begins n) h =
    tt
resumed_in_well t at why (errand.InBuiltin canon) h =
    builtin_resumed_well t at canon why h

pub resumed_from_well : (t : ℕ) (at : ℕ) (why : BlockedAt) (h : Held) → KeepsWell h (resumed_from t at why h)
unfolding resumed_from
resumed_from_well t at why h =
    well_after h (errand_of t h) (λ e k. resumed_in t at why e k) (errand_of_well t h) (λ e k. resumed_in_well t at why e k)

pub resumed_by_well : (t : ℕ) (at : ℕ) (far : Phase) (h : Held) → KeepsWell h (resumed_by t at far h)
resumed_by_well t at phase.New h =
    tt
resumed_by_well t at phase.Acting h =
    tt
resumed_by_well t at (phase.Blocked blocked_at.Entry flag) h =
    well_same h
resumed_by_well t at (phase.Blocked (blocked_at.Loop word) flag) h =
    loop_resumed_well t at word h
resumed_by_well t at (phase.Blocked blocked_at.Yield flag) h =
    resumed_from_well t at blocked_at.Yield h
resumed_by_well t at (phase.Blocked (blocked_at.Set index) flag) h =
    resumed_from_well t at (blocked_at.Set index) h
resumed_by_well t at (phase.Blocked (blocked_at.Call callee) flag) h =
    resumed_from_well t at (blocked_at.Call callee) h
resumed_by_well t at (phase.Blocked (blocked_at.Copy index) flag) h =
    resumed_from_well t at (blocked_at.Copy index) h
resumed_by_well t at (phase.Blocked (blocked_at.Cancel index) flag) h =
    resumed_from_well t at (blocked_at.Cancel index) h
resumed_by_well t at phase.Exited h =
    tt

pub resumes_well : (h : Held) → KeepsWell h (resumes h)
unfolding resumes
resumes_well h =
    well_after h (acting h) (λ t k. after (instance_of t k) (λ at l. after (phase_of t l) (λ far m. resumed_by t at far m))) (acting_well h) (λ t k. well_after k (instance_of t k) (λ at l. after (phase_of t l) (λ far m. resumed_by t at far m)) (instance_of_well t k) (λ at l. well_after l (phase_of t l) (λ far m. resumed_by t at far m) (phase_of_well t l) (λ far m. resumed_by_well t at far m)))
