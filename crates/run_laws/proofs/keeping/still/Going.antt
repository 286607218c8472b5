-- Tasks that arrive, enter, go on and exit keep memories, core instances and ends as they are kept.
use Rattle.std.proofs.Common.{◌≡◌, refl, Some}
use Rattle.std.specs.Prelude.{ℕ, Bool, false, true, is_none, if◌then◌else◌, [], ◌∷◌, Option, Some, None, Result, Ok, Err}
use Rattle.entry_gate.specs.Callbacks.{callback_of}
use Rattle.entry_gate.specs.declared.callback.BadCode.{BadCode}
use Rattle.entry_gate.specs.declared.callback.Next.{Next}
use Rattle.entry_gate.specs.declared.callback.Next.TheVariants as next
use Rattle.tasks.specs.declared.event.BlockedAt.{BlockedAt}
use Rattle.tasks.specs.declared.event.BlockedAt.TheVariants as blocked_at
use Rattle.tasks.specs.declared.event.TaskEvent.TheVariants as event
use Rattle.tasks.specs.declared.phase.Phase.{Phase}
use Rattle.tasks.specs.declared.phase.Phase.TheVariants as phase
use Rattle.tasks.specs.declared.subtask_state.SubtaskState.TheVariants as state
use Rattle.task_table.specs.declared.errand.Errand.{Errand}
use Rattle.task_table.specs.declared.errand.Errand.TheVariants as errand
use Rattle.std.specs.List.{slice_get}
use Rattle.instances.specs.declared.entry.EndEntry.{EndEntry}
use Rattle.instances.specs.Instances.{entry_of}
use Rattle.instances.specs.declared.entry.WorldEntry.{WorldEntry}
use Rattle.instances.specs.declared.entry.WorldEntry.TheVariants as entry
use Rattle.trace_labels.specs.declared.label.BlockReason.{BlockReason}
use Rattle.trace_labels.specs.declared.label.BlockReason.TheVariants as reason
use Rattle.trace_labels.specs.declared.label.Label.TheVariants as line
use Rattle.trace_labels.specs.declared.trap.TrapName.TheVariants as trap
use Rattle.world_parts.specs.declared.parts.Rest.TheVariants as rest
use Rattle.world_parts.specs.declared.parts.Flow.TheVariants as flow
use Rattle.world_parts.specs.Held.{Held, Gives, Traps, after}
use Rattle.world_parts.specs.Feed.{told, at_rest, acting, left_chain, got}
use Rattle.world_parts.specs.Entries.{subtask_known, set_found, set_known, set_waited_on, set_waited_off}
use Rattle.world_parts.specs.Gates.{may_enter, gate_waited, gate_unwaited, gate_entered, gate_given_up, gate_taken_back}
use Rattle.world_parts.specs.Slots.{instance_of, kind_of, phase_of, resolution_of, errand_of, asked, to_be_told, happens, errand_set, raised, awaited, result_found, closed, parked, unparked}
use Rattle.world_parts.specs.Calls.{blocked, subtask_told}
use Rattle.world_parts.specs.Plain.{yield_cancelled}
use Rattle.world_parts.specs.Events.{end_told}
use Rattle.world_parts.specs.Going.{arrives, builtin_resumed, call_resumed, cancel_resumed, copy_resumed, copy_resumed_of, ending, enters, leaves, loop_flow, loop_resumed, loop_resumed_at, loop_resumed_by, looped, looped_at_set, loops, loops_by, place_of, resumed_by, resumed_from, resumed_in, resumes, set_flow, set_resumed, unwaited, unwaited_if, wait_resumed, waits_to_enter, yield_resumed}
use Rattle.run_laws.proofs.keeping.still.Still.{Kinds, StillBy, still_after, still_if, still_same, still_all, still_look}
use Rattle.run_laws.proofs.keeping.still.Calls.{blocked_still, subtask_told_still}
use Rattle.run_laws.proofs.keeping.still.Entries.{set_found_still, set_known_still, set_waited_off_still, set_waited_on_still, subtask_known_still}
use Rattle.run_laws.proofs.keeping.still.EndParts.{StandsThere, end_told_still}
use Rattle.run_laws.proofs.keeping.still.Feed.{acting_still, got_still, left_chain_still, told_still}
use Rattle.run_laws.proofs.keeping.still.Gates.{gate_entered_still, gate_given_up_still, gate_taken_back_still, gate_unwaited_still, gate_waited_still, may_enter_still}
use Rattle.run_laws.proofs.keeping.still.Plain.{yield_cancelled_still}
use Rattle.run_laws.proofs.keeping.still.Slots.{asked_still, awaited_still, closed_still, errand_of_still, errand_set_still, happens_still, instance_of_still, kind_of_still, parked_still, phase_of_still, raised_still, resolution_of_still, result_found_still, to_be_told_still, unparked_still, word_of_still}

pub arrives_still : (W : Kinds) → (h : Held) → StillBy W h (arrives h)
unfolding arrives
arrives_still W h =
    still_after W h (acting h) (λ t k. after (instance_of t k) (λ at l. after (kind_of t l) (λ kind m. after (may_enter at kind true m) (λ may n. if may then Gives flow.Enters n else after (gate_waited at n) (λ done o. after (parked t kind o) (λ done p. blocked t blocked_at.Entry false reason.Entry p)))))) (acting_still W h) (λ t k. still_after W k (instance_of t k) (λ at l. after (kind_of t l) (λ kind m. after (may_enter at kind true m) (λ may n. if may then Gives flow.Enters n else after (gate_waited at n) (λ done o. after (parked t kind o) (λ done p. blocked t blocked_at.Entry false reason.Entry p))))) (instance_of_still W t k) (λ at l. still_after W l (kind_of t l) (λ kind m. after (may_enter at kind true m) (λ may n. if may then Gives flow.Enters n else after (gate_waited at n) (λ done o. after (parked t kind o) (λ done p. blocked t blocked_at.Entry false reason.Entry p)))) (kind_of_still W t l) (λ kind m. still_after W m (may_enter at kind true m) (λ may n. if may then Gives flow.Enters n else after (gate_waited at n) (λ done o. after (parked t kind o) (λ done p. blocked t blocked_at.Entry false reason.Entry p))) (may_enter_still W at kind true m) (λ may n. still_if W n (may) (Gives flow.Enters n) (after (gate_waited at n) (λ done o. after (parked t kind o) (λ done p. blocked t blocked_at.Entry false reason.Entry p))) (still_same W n) (still_after W n (gate_waited at n) (λ done o. after (parked t kind o) (λ done p. blocked t blocked_at.Entry false reason.Entry p)) (gate_waited_still W at n) (λ done o. still_after W o (parked t kind o) (λ done p. blocked t blocked_at.Entry false reason.Entry p) (parked_still W t kind o) (λ done p. blocked_still W t blocked_at.Entry false reason.Entry p)))))))

pub unwaited_still : (W : Kinds) → (t : ℕ) (at : ℕ) (h : Held) → StillBy W h (unwaited t at h)
unwaited_still W t at h =
    still_after W h (gate_unwaited at h) (λ done k. unparked t k) (gate_unwaited_still W at h) (λ done k. unparked_still W t k)

pub unwaited_if_still : (W : Kinds) → (waits : Bool) (t : ℕ) (at : ℕ) (h : Held) → StillBy W h (unwaited_if waits t at h)
unwaited_if_still W waits t at h =
    still_if W h (waits) (unwaited t at h) (Gives (tt {0}) h) (unwaited_still W t at h) (still_same W h)

pub enters_still : (W : Kinds) → (t : ℕ) (h : Held) → StillBy W h (enters t h)
unfolding enters
enters_still W t h =
    still_after W h (instance_of t h) (λ at k. after (kind_of t k) (λ kind l. after (phase_of t l) (λ far m. after (unwaited_if (waits_to_enter far) t at m) (λ done n. after (gate_entered at t kind n) (λ done o. after (happens t event.Enter o) (λ done p. after (raised t state.Started p) (λ done q. told (line.Enter t) q))))))) (instance_of_still W t h) (λ at k. still_after W k (kind_of t k) (λ kind l. after (phase_of t l) (λ far m. after (unwaited_if (waits_to_enter far) t at m) (λ done n. after (gate_entered at t kind n) (λ done o. after (happens t event.Enter o) (λ done p. after (raised t state.Started p) (λ done q. told (line.Enter t) q)))))) (kind_of_still W t k) (λ kind l. still_after W l (phase_of t l) (λ far m. after (unwaited_if (waits_to_enter far) t at m) (λ done n. after (gate_entered at t kind n) (λ done o. after (happens t event.Enter o) (λ done p. after (raised t state.Started p) (λ done q. told (line.Enter t) q))))) (phase_of_still W t l) (λ far m. still_after W m (unwaited_if (waits_to_enter far) t at m) (λ done n. after (gate_entered at t kind n) (λ done o. after (happens t event.Enter o) (λ done p. after (raised t state.Started p) (λ done q. told (line.Enter t) q)))) (unwaited_if_still W (waits_to_enter far) t at m) (λ done n. still_after W n (gate_entered at t kind n) (λ done o. after (happens t event.Enter o) (λ done p. after (raised t state.Started p) (λ done q. told (line.Enter t) q))) (gate_entered_still W at t kind n) (λ done o. still_after W o (happens t event.Enter o) (λ done p. after (raised t state.Started p) (λ done q. told (line.Enter t) q)) (happens_still W t event.Enter o) (λ done p. still_after W p (raised t state.Started p) (λ done q. told (line.Enter t) q) (raised_still W t state.Started p) (λ done q. told_still W (line.Enter t) q)))))))

pub leaves_still : (W : Kinds) → (h : Held) → StillBy W h (leaves h)
unfolding leaves
leaves_still W h =
    still_after W h (acting h) (λ t k. after (instance_of t k) (λ at l. after (happens t event.Exit l) (λ done m. after (gate_given_up at t m) (λ done n. after (closed t n) (λ done o. after (told (line.Exit t) o) (λ done p. left_chain p)))))) (acting_still W h) (λ t k. still_after W k (instance_of t k) (λ at l. after (happens t event.Exit l) (λ done m. after (gate_given_up at t m) (λ done n. after (closed t n) (λ done o. after (told (line.Exit t) o) (λ done p. left_chain p))))) (instance_of_still W t k) (λ at l. still_after W l (happens t event.Exit l) (λ done m. after (gate_given_up at t m) (λ done n. after (closed t n) (λ done o. after (told (line.Exit t) o) (λ done p. left_chain p)))) (happens_still W t event.Exit l) (λ done m. still_after W m (gate_given_up at t m) (λ done n. after (closed t n) (λ done o. after (told (line.Exit t) o) (λ done p. left_chain p))) (gate_given_up_still W at t m) (λ done n. still_after W n (closed t n) (λ done o. after (told (line.Exit t) o) (λ done p. left_chain p)) (closed_still W t n) (λ done o. still_after W o (told (line.Exit t) o) (λ done p. left_chain p) (told_still W (line.Exit t) o) (λ done p. left_chain_still W p))))))

pub ending_still : (W : Kinds) → (t : ℕ) (h : Held) → StillBy W h (ending t h)
unfolding ending
ending_still W t h =
    still_after W h (resolution_of t h) (λ resolution k. if is_none resolution then Traps trap.Unresolved k else Gives flow.Rests (at_rest rest.Leaves k)) (resolution_of_still W t h) (λ resolution k. still_if W k (is_none resolution) (Traps trap.Unresolved k) (Gives flow.Rests (at_rest rest.Leaves k)) (λ K asked kept. kept) (still_all W k (at_rest rest.Leaves k) refl refl refl refl refl))

pub looped_still : (W : Kinds) → (t : ℕ) (at : ℕ) (word : ℕ) (why : BlockReason) (h : Held) → StillBy W h (looped t at word why h)
unfolding looped
looped_still W t at word why h =
    still_after W h (gate_given_up at t h) (λ done k. blocked t (blocked_at.Loop word) false why k) (gate_given_up_still W at t h) (λ done k. blocked_still W t (blocked_at.Loop word) false why k)

pub looped_at_set_still : (W : Kinds) → (t : ℕ) (at : ℕ) (word : ℕ) (index : ℕ) (why : BlockReason) (h : Held) → StillBy W h (looped_at_set t at word index why h)
unfolding looped_at_set
looped_at_set_still W t at word index why h =
    still_after W h (set_found at index h) (λ set k. after (set_waited_on at set k) (λ done l. looped t at word why l)) (set_found_still W at index h) (λ set k. still_after W k (set_waited_on at set k) (λ done l. looped t at word why l) (set_waited_on_still W at set k) (λ done l. looped_still W t at word why l))

pub loops_by_still : (W : Kinds) → (t : ℕ) (at : ℕ) (word : ℕ) (r : Result Next BadCode) (h : Held) → StillBy W h (loops_by t at word r h)
loops_by_still W t at word (Err why) h =
    (λ K asked kept. kept)
loops_by_still W t at word (Ok next.Exit) h =
    ending_still W t h
loops_by_still W t at word (Ok next.Yield) h =
    looped_still W t at word reason.Yield h
loops_by_still W t at word (Ok (next.Wait set)) h =
    looped_at_set_still W t at word set (reason.Wait set) h
loops_by_still W t at word (Ok (next.Poll set)) h =
    looped_at_set_still W t at word set (reason.Poll set) h

pub loops_still : (W : Kinds) → (t : ℕ) (word : ℕ) (h : Held) → StillBy W h (loops t word h)
unfolding loops
loops_still W t word h =
    still_after W h (instance_of t h) (λ at k. loops_by t at word (callback_of word) k) (instance_of_still W t h) (λ at k. loops_by_still W t at word (callback_of word) k)

pub loop_resumed_at_still : (W : Kinds) → (at : ℕ) (is_asked : Bool) (polls : Bool) (index : ℕ) (h : Held) → StillBy W h (loop_resumed_at at is_asked polls index h)
unfolding loop_resumed_at
loop_resumed_at_still W at is_asked polls index h =
    still_after W h (set_known at index h) (λ set k. after (set_waited_off at set k) (λ done l. Gives (loop_flow is_asked polls set) l)) (set_known_still W at index h) (λ set k. still_after W k (set_waited_off at set k) (λ done l. Gives (loop_flow is_asked polls set) l) (set_waited_off_still W at set k) (λ done l. still_same W l))

pub loop_resumed_by_still : (W : Kinds) → (at : ℕ) (is_asked : Bool) (r : Result Next BadCode) (h : Held) → StillBy W h (loop_resumed_by at is_asked r h)
loop_resumed_by_still W at is_asked (Err why) h =
    tt
loop_resumed_by_still W at is_asked (Ok next.Exit) h =
    tt
loop_resumed_by_still W at is_asked (Ok next.Yield) h =
    still_same W h
loop_resumed_by_still W at is_asked (Ok (next.Wait index)) h =
    loop_resumed_at_still W at is_asked false index h
loop_resumed_by_still W at is_asked (Ok (next.Poll index)) h =
    loop_resumed_at_still W at is_asked true index h

pub loop_resumed_still : (W : Kinds) → (t : ℕ) (at : ℕ) (word : ℕ) (h : Held) → StillBy W h (loop_resumed t at word h)
unfolding loop_resumed
loop_resumed_still W t at word h =
    still_after W h (asked t h) (λ is_asked k. after (happens t event.Go k) (λ done l. after (gate_taken_back at t l) (λ done m. loop_resumed_by at is_asked (callback_of word) m))) (asked_still W t h) (λ is_asked k. still_after W k (happens t event.Go k) (λ done l. after (gate_taken_back at t l) (λ done m. loop_resumed_by at is_asked (callback_of word) m)) (happens_still W t event.Go k) (λ done l. still_after W l (gate_taken_back at t l) (λ done m. loop_resumed_by at is_asked (callback_of word) m) (gate_taken_back_still W at t l) (λ done m. loop_resumed_by_still W at is_asked (callback_of word) m)))

pub yield_resumed_still : (W : Kinds) → (t : ℕ) (told_so : Bool) (h : Held) → StillBy W h (yield_resumed t told_so h)
unfolding yield_resumed
yield_resumed_still W t told_so h =
    still_if W h (told_so) (yield_cancelled t h) (got t (0 ∷ []) h) (yield_cancelled_still W t h) (got_still W t (0 ∷ []) h)

pub set_resumed_still : (W : Kinds) → (at : ℕ) (canon : ℕ) (told_so : Bool) (index : ℕ) (place : ℕ) (h : Held) → StillBy W h (set_resumed at canon told_so index place h)
unfolding set_resumed
set_resumed_still W at canon told_so index place h =
    still_after W h (set_known at index h) (λ set k. after (set_waited_off at set k) (λ done l. Gives (set_flow told_so canon place set) l)) (set_known_still W at index h) (λ set k. still_after W k (set_waited_off at set k) (λ done l. Gives (set_flow told_so canon place set) l) (set_waited_off_still W at set k) (λ done l. still_same W l))

pub call_resumed_still : (W : Kinds) → (t : ℕ) (at : ℕ) (callee : ℕ) (h : Held) → StillBy W h (call_resumed t at callee h)
unfolding call_resumed
call_resumed_still W t at callee h =
    still_after W h (result_found callee h) (λ words k. after (subtask_told at callee k) (λ payload l. got t words l)) (result_found_still W callee h) (λ words k. still_after W k (subtask_told at callee k) (λ payload l. got t words l) (subtask_told_still W at callee k) (λ payload l. got_still W t words l))

pub cancel_resumed_still : (W : Kinds) → (t : ℕ) (at : ℕ) (index : ℕ) (h : Held) → StillBy W h (cancel_resumed t at index h)
unfolding cancel_resumed
cancel_resumed_still W t at index h =
    still_after W h (subtask_known at index h) (λ callee k. after (awaited callee false k) (λ done l. after (subtask_told at callee l) (λ payload m. got t (payload ∷ []) m))) (subtask_known_still W at index h) (λ callee k. still_after W k (awaited callee false k) (λ done l. after (subtask_told at callee l) (λ payload m. got t (payload ∷ []) m)) (awaited_still W callee false k) (λ done l. still_after W l (subtask_told at callee l) (λ payload m. got t (payload ∷ []) m) (subtask_told_still W at callee l) (λ payload m. got_still W t (payload ∷ []) m)))

pub copy_resumed_of_still : (W : Kinds) → (t : ℕ) (at : ℕ) (index : ℕ) (o : Option WorldEntry) (h : Held) → ((e : EndEntry) → o ≡ Some (entry.End e) → StandsThere h at index e) → StillBy W h (copy_resumed_of t at index o h)
copy_resumed_of_still W t at index None h stands =
    tt
copy_resumed_of_still W t at index (Some (entry.Handle x)) h stands =
    tt
copy_resumed_of_still W t at index (Some (entry.Subtask callee)) h stands =
    tt
copy_resumed_of_still W t at index (Some (entry.Set set)) h stands =
    tt
copy_resumed_of_still W t at index (Some (entry.End e)) h stands =
    still_after W h (end_told at index e h) (λ payload k. got t (payload ∷ []) k) (end_told_still W at index e h (stands e refl)) (λ payload k. got_still W t (payload ∷ []) k)

pub copy_resumed_still : (W : Kinds) → (t : ℕ) (at : ℕ) (index : ℕ) (h : Held) → StillBy W h (copy_resumed t at index h)
unfolding copy_resumed
copy_resumed_still W t at index h =
    still_look W h (slice_get h.instances at) (λ i. Gives (entry_of i index) h) (λ found k. copy_resumed_of t at index found k)
    (λ i here. copy_resumed_of_still W t at index (entry_of i index) h (λ e is_end. (i, here, is_end)))

pub wait_resumed_still : (W : Kinds) → (t : ℕ) (at : ℕ) (canon : ℕ) (told_so : Bool) (place : ℕ) (why : BlockedAt) (h : Held) → StillBy W h (wait_resumed t at canon told_so place why h)
wait_resumed_still W t at canon told_so place blocked_at.Entry h =
    tt
wait_resumed_still W t at canon told_so place (blocked_at.Loop word) h =
    tt
wait_resumed_still W t at canon told_so place blocked_at.Yield h =
    yield_resumed_still W t told_so h
wait_resumed_still W t at canon told_so place (blocked_at.Set index) h =
    set_resumed_still W at canon told_so index place h
wait_resumed_still W t at canon told_so place (blocked_at.Call callee) h =
    call_resumed_still W t at callee h
wait_resumed_still W t at canon told_so place (blocked_at.Copy index) h =
    copy_resumed_still W t at index h
wait_resumed_still W t at canon told_so place (blocked_at.Cancel index) h =
    cancel_resumed_still W t at index h

pub place_of_still : (W : Kinds) → (t : ℕ) (why : BlockedAt) (h : Held) → StillBy W h (place_of t why h)
place_of_still W t blocked_at.Entry h =
    still_same W h
place_of_still W t (blocked_at.Loop word) h =
    still_same W h
place_of_still W t blocked_at.Yield h =
    still_same W h
place_of_still W t (blocked_at.Set index) h =
    word_of_still W t 1 h
place_of_still W t (blocked_at.Call callee) h =
    still_same W h
place_of_still W t (blocked_at.Copy index) h =
    still_same W h
place_of_still W t (blocked_at.Cancel index) h =
    still_same W h

pub builtin_resumed_still : (W : Kinds) → (t : ℕ) (at : ℕ) (canon : ℕ) (why : BlockedAt) (h : Held) → StillBy W h (builtin_resumed t at canon why h)
unfolding builtin_resumed
builtin_resumed_still W t at canon why h =
    still_after W h (to_be_told t h) (λ told_so k. after (place_of t why k) (λ place l. after (happens t event.Go l) (λ done m. after (errand_set t errand.None m) (λ done n. wait_resumed t at canon told_so place why n)))) (to_be_told_still W t h) (λ told_so k. still_after W k (place_of t why k) (λ place l. after (happens t event.Go l) (λ done m. after (errand_set t errand.None m) (λ done n. wait_resumed t at canon told_so place why n))) (place_of_still W t why k) (λ place l. still_after W l (happens t event.Go l) (λ done m. after (errand_set t errand.None m) (λ done n. wait_resumed t at canon told_so place why n)) (happens_still W t event.Go l) (λ done m. still_after W m (errand_set t errand.None m) (λ done n. wait_resumed t at canon told_so place why n) (errand_set_still W t errand.None m) (λ done n. wait_resumed_still W t at canon told_so place why n))))

pub resumed_in_still : (W : Kinds) → (t : ℕ) (at : ℕ) (why : BlockedAt) (e : Errand) (h : Held) → StillBy W h (resumed_in t at why e h)
resumed_in_still W t at why errand.None h =
    tt
resumed_in_still W t at why (errand.AfterCall callee canon) h =
    tt
resumed_in_still W t at why (errand.AfterCancel callee canon index) h =
    tt
resumed_in_still W t at why (errand.Begins n) h =
    tt
resumed_in_still W t at why (errand.InBuiltin canon) h =
    builtin_resumed_still W t at canon why h

pub resumed_from_still : (W : Kinds) → (t : ℕ) (at : ℕ) (why : BlockedAt) (h : Held) → StillBy W h (resumed_from t at why h)
unfolding resumed_from
resumed_from_still W t at why h =
    still_after W h (errand_of t h) (λ e k. resumed_in t at why e k) (errand_of_still W t h) (λ e k. resumed_in_still W t at why e k)

pub resumed_by_still : (W : Kinds) → (t : ℕ) (at : ℕ) (far : Phase) (h : Held) → StillBy W h (resumed_by t at far h)
resumed_by_still W t at phase.New h =
    tt
resumed_by_still W t at phase.Acting h =
    tt
resumed_by_still W t at (phase.Blocked blocked_at.Entry flag) h =
    still_same W h
resumed_by_still W t at (phase.Blocked (blocked_at.Loop word) flag) h =
    loop_resumed_still W t at word h
resumed_by_still W t at (phase.Blocked blocked_at.Yield flag) h =
    resumed_from_still W t at blocked_at.Yield h
resumed_by_still W t at (phase.Blocked (blocked_at.Set index) flag) h =
    resumed_from_still W t at (blocked_at.Set index) h
resumed_by_still W t at (phase.Blocked (blocked_at.Call callee) flag) h =
    resumed_from_still W t at (blocked_at.Call callee) h
resumed_by_still W t at (phase.Blocked (blocked_at.Copy index) flag) h =
    resumed_from_still W t at (blocked_at.Copy index) h
resumed_by_still W t at (phase.Blocked (blocked_at.Cancel index) flag) h =
    resumed_from_still W t at (blocked_at.Cancel index) h
resumed_by_still W t at phase.Exited h =
    tt

pub resumes_still : (W : Kinds) → (h : Held) → StillBy W h (resumes h)
unfolding resumes
resumes_still W h =
    still_after W h (acting h) (λ t k. after (instance_of t k) (λ at l. after (phase_of t l) (λ far m. resumed_by t at far m))) (acting_still W h) (λ t k. still_after W k (instance_of t k) (λ at l. after (phase_of t l) (λ far m. resumed_by t at far m)) (instance_of_still W t k) (λ at l. still_after W l (phase_of t l) (λ far m. resumed_by t at far m) (phase_of_still W t l) (λ far m. resumed_by_still W t at far m)))
