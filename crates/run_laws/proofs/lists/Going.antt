-- How tasks enter, go on and exit: lists of tasks stay as they follow from the tasks.
use Rattle.std.proofs.Common.{refl, Some}
use Rattle.std.specs.Prelude.{ℕ, Bool, false, true, is_none, if◌then◌else◌, [], ◌∷◌, Option, Some, None, Result, Ok, Err}
use Rattle.entry_gate.specs.Callbacks.{callback_of}
use Rattle.entry_gate.specs.declared.callback.BadCode.{BadCode}
use Rattle.entry_gate.specs.declared.callback.Next.{Next}
use Rattle.entry_gate.specs.declared.callback.Next.TheVariants as next
use Rattle.tasks.specs.declared.event.BlockedAt.{BlockedAt}
use Rattle.tasks.specs.declared.event.BlockedAt.TheVariants as blocked_at
use Rattle.tasks.specs.declared.event.TaskEvent.TheVariants as event
use Rattle.tasks.specs.declared.phase.Phase.{Phase}
use Rattle.tasks.specs.declared.phase.Phase.TheVariants as phase
use Rattle.task_table.specs.declared.errand.Errand.{Errand}
use Rattle.task_table.specs.declared.errand.Errand.TheVariants as errand
use Rattle.instances.specs.declared.entry.WorldEntry.{WorldEntry}
use Rattle.instances.specs.declared.entry.WorldEntry.TheVariants as entry
use Rattle.trace_labels.specs.declared.label.BlockReason.{BlockReason}
use Rattle.trace_labels.specs.declared.label.BlockReason.TheVariants as reason
use Rattle.trace_labels.specs.declared.trap.TrapName.TheVariants as trap
use Rattle.world_parts.specs.declared.parts.Rest.TheVariants as rest
use Rattle.world_parts.specs.declared.parts.Flow.TheVariants as flow
use Rattle.world_parts.specs.Held.{Held, Gives, Traps, after}
use Rattle.world_parts.specs.Feed.{at_rest, acting, got}
use Rattle.world_parts.specs.Entries.{entry_found, subtask_known, set_found, set_known, set_waited_on, set_waited_off}
use Rattle.world_parts.specs.Gates.{gate_given_up, gate_taken_back}
use Rattle.world_parts.specs.Slots.{instance_of, phase_of, resolution_of, errand_of, asked, to_be_told, happens, errand_set, awaited, result_found}
use Rattle.world_parts.specs.Calls.{blocked, subtask_told}
use Rattle.world_parts.specs.Plain.{yield_cancelled}
use Rattle.world_parts.specs.Events.{end_told}
use Rattle.world_parts.specs.Going.{builtin_resumed, call_resumed, cancel_resumed, copy_resumed, copy_resumed_of, ending, loop_flow, loop_resumed, loop_resumed_at, loop_resumed_by, looped, looped_at_set, loops, loops_by, place_of, resumed_by, resumed_from, resumed_in, resumes, set_flow, set_resumed, wait_resumed, yield_resumed}
use Rattle.run_laws.proofs.lists.Calls.{blocked_lists, subtask_told_lists}
use Rattle.run_laws.proofs.lists.Entries.{entry_found_lists, set_found_lists, set_known_lists, set_waited_off_lists, set_waited_on_lists, subtask_known_lists}
use Rattle.run_laws.proofs.lists.Events.{end_told_lists}
use Rattle.run_laws.proofs.lists.Feed.{acting_lists, got_lists}
use Rattle.run_laws.proofs.lists.Gates.{gate_given_up_lists, gate_taken_back_lists}
use Rattle.run_laws.proofs.lists.Plain.{yield_cancelled_lists}
use Rattle.run_laws.proofs.lists.Slots.{asked_lists, awaited_lists, errand_of_lists, errand_set_lists, happens_lists, instance_of_lists, phase_of_lists, resolution_of_lists, result_found_lists, to_be_told_lists, word_of_lists}
use Rattle.run_laws.proofs.lists.Same.{ListsBy, lists_after, lists_if, lists_same, lists_all}

pub ending_lists : (t : ℕ) (h : Held) → ListsBy h (ending t h)
unfolding ending
ending_lists t h =
    lists_after h (resolution_of t h) (λ resolution k. if is_none resolution then Traps trap.Unresolved k else Gives flow.Rests (at_rest rest.Leaves k)) (resolution_of_lists t h) (λ resolution k. lists_if k (is_none resolution) (Traps trap.Unresolved k) (Gives flow.Rests (at_rest rest.Leaves k)) tt (lists_all k (at_rest rest.Leaves k) refl refl refl refl refl))

pub looped_lists : (t : ℕ) (at : ℕ) (word : ℕ) (why : BlockReason) (h : Held) → ListsBy h (looped t at word why h)
unfolding looped
looped_lists t at word why h =
    lists_after h (gate_given_up at t h) (λ done k. blocked t (blocked_at.Loop word) false why k) (gate_given_up_lists at t h) (λ done k. blocked_lists t (blocked_at.Loop word) false why k refl)

pub looped_at_set_lists : (t : ℕ) (at : ℕ) (word : ℕ) (index : ℕ) (why : BlockReason) (h : Held) → ListsBy h (looped_at_set t at word index why h)
unfolding looped_at_set
looped_at_set_lists t at word index why h =
    lists_after h (set_found at index h) (λ set k. after (set_waited_on at set k) (λ done l. looped t at word why l)) (set_found_lists at index h) (λ set k. lists_after k (set_waited_on at set k) (λ done l. looped t at word why l) (set_waited_on_lists at set k) (λ done l. looped_lists t at word why l))

pub loops_by_lists : (t : ℕ) (at : ℕ) (word : ℕ) (r : Result Next BadCode) (h : Held) → ListsBy h (loops_by t at word r h)
loops_by_lists t at word (Err why) h =
    tt
loops_by_lists t at word (Ok next.Exit) h =
    ending_lists t h
loops_by_lists t at word (Ok next.Yield) h =
    looped_lists t at word reason.Yield h
loops_by_lists t at word (Ok (next.Wait set)) h =
    looped_at_set_lists t at word set (reason.Wait set) h
loops_by_lists t at word (Ok (next.Poll set)) h =
    looped_at_set_lists t at word set (reason.Poll set) h

pub loops_lists : (t : ℕ) (word : ℕ) (h : Held) → ListsBy h (loops t word h)
unfolding loops
loops_lists t word h =
    lists_after h (instance_of t h) (λ at k. loops_by t at word (callback_of word) k) (instance_of_lists t h) (λ at k. loops_by_lists t at word (callback_of word) k)

pub loop_resumed_at_lists : (at : ℕ) (is_asked : Bool) (polls : Bool) (index : ℕ) (h : Held) → ListsBy h (loop_resumed_at at is_asked polls index h)
unfolding loop_resumed_at
loop_resumed_at_lists at is_asked polls index h =
    lists_after h (set_known at index h) (λ set k. after (set_waited_off at set k) (λ done l. Gives (loop_flow is_asked polls set) l)) (set_known_lists at index h) (λ set k. lists_after k (set_waited_off at set k) (λ done l. Gives (loop_flow is_asked polls set) l) (set_waited_off_lists at set k) (λ done l. lists_same l))

pub loop_resumed_by_lists : (at : ℕ) (is_asked : Bool) (r : Result Next BadCode) (h : Held) → ListsBy h (loop_resumed_by at is_asked r h)
loop_resumed_by_lists at is_asked (Err why) h =
    tt
loop_resumed_by_lists at is_asked (Ok next.Exit) h =
    tt
loop_resumed_by_lists at is_asked (Ok next.Yield) h =
    lists_same h
loop_resumed_by_lists at is_asked (Ok (next.Wait index)) h =
    loop_resumed_at_lists at is_asked false index h
loop_resumed_by_lists at is_asked (Ok (next.Poll index)) h =
    loop_resumed_at_lists at is_asked true index h

pub loop_resumed_lists : (t : ℕ) (at : ℕ) (word : ℕ) (h : Held) → ListsBy h (loop_resumed t at word h)
unfolding loop_resumed
loop_resumed_lists t at word h =
    lists_after h (asked t h) (λ is_asked k. after (happens t event.Go k) (λ done l. after (gate_taken_back at t l) (λ done m. loop_resumed_by at is_asked (callback_of word) m))) (asked_lists t h) (λ is_asked k. lists_after k (happens t event.Go k) (λ done l. after (gate_taken_back at t l) (λ done m. loop_resumed_by at is_asked (callback_of word) m)) (happens_lists t event.Go k tt) (λ done l. lists_after l (gate_taken_back at t l) (λ done m. loop_resumed_by at is_asked (callback_of word) m) (gate_taken_back_lists at t l) (λ done m. loop_resumed_by_lists at is_asked (callback_of word) m)))

pub yield_resumed_lists : (t : ℕ) (told_so : Bool) (h : Held) → ListsBy h (yield_resumed t told_so h)
unfolding yield_resumed
yield_resumed_lists t told_so h =
    lists_if h (told_so) (yield_cancelled t h) (got t (0 ∷ []) h) (yield_cancelled_lists t h) (got_lists t (0 ∷ []) h)

pub set_resumed_lists : (at : ℕ) (canon : ℕ) (told_so : Bool) (index : ℕ) (place : ℕ) (h : Held) → ListsBy h (set_resumed at canon told_so index place h)
unfolding set_resumed
set_resumed_lists at canon told_so index place h =
    lists_after h (set_known at index h) (λ set k. after (set_waited_off at set k) (λ done l. Gives (set_flow told_so canon place set) l)) (set_known_lists at index h) (λ set k. lists_after k (set_waited_off at set k) (λ done l. Gives (set_flow told_so canon place set) l) (set_waited_off_lists at set k) (λ done l. lists_same l))

pub call_resumed_lists : (t : ℕ) (at : ℕ) (callee : ℕ) (h : Held) → ListsBy h (call_resumed t at callee h)
unfolding call_resumed
call_resumed_lists t at callee h =
    lists_after h (result_found callee h) (λ words k. after (subtask_told at callee k) (λ payload l. got t words l)) (result_found_lists callee h) (λ words k. lists_after k (subtask_told at callee k) (λ payload l. got t words l) (subtask_told_lists at callee k) (λ payload l. got_lists t words l))

pub cancel_resumed_lists : (t : ℕ) (at : ℕ) (index : ℕ) (h : Held) → ListsBy h (cancel_resumed t at index h)
unfolding cancel_resumed
cancel_resumed_lists t at index h =
    lists_after h (subtask_known at index h) (λ callee k. after (awaited callee false k) (λ done l. after (subtask_told at callee l) (λ payload m. got t (payload ∷ []) m))) (subtask_known_lists at index h) (λ callee k. lists_after k (awaited callee false k) (λ done l. after (subtask_told at callee l) (λ payload m. got t (payload ∷ []) m)) (awaited_lists callee false k) (λ done l. lists_after l (subtask_told at callee l) (λ payload m. got t (payload ∷ []) m) (subtask_told_lists at callee l) (λ payload m. got_lists t (payload ∷ []) m)))

pub copy_resumed_of_lists : (t : ℕ) (at : ℕ) (index : ℕ) (o : Option WorldEntry) (h : Held) → ListsBy h (copy_resumed_of t at index o h)
copy_resumed_of_lists t at index None h =
    tt
copy_resumed_of_lists t at index (Some (entry.Handle x)) h =
    tt
copy_resumed_of_lists t at index (Some (entry.Subtask callee)) h =
    tt
copy_resumed_of_lists t at index (Some (entry.Set set)) h =
    tt
copy_resumed_of_lists t at index (Some (entry.End e)) h =
    lists_after h (end_told at index e h) (λ payload k. got t (payload ∷ []) k) (end_told_lists at index e h) (λ payload k. got_lists t (payload ∷ []) k)

pub copy_resumed_lists : (t : ℕ) (at : ℕ) (index : ℕ) (h : Held) → ListsBy h (copy_resumed t at index h)
unfolding copy_resumed
copy_resumed_lists t at index h =
    lists_after h (entry_found at index h) (λ found k. copy_resumed_of t at index found k) (entry_found_lists at index h) (λ found k. copy_resumed_of_lists t at index found k)

pub wait_resumed_lists : (t : ℕ) (at : ℕ) (canon : ℕ) (told_so : Bool) (place : ℕ) (why : BlockedAt) (h : Held) → ListsBy h (wait_resumed t at canon told_so place why h)
wait_resumed_lists t at canon told_so place blocked_at.Entry h =
    tt
wait_resumed_lists t at canon told_so place (blocked_at.Loop word) h =
    tt
wait_resumed_lists t at canon told_so place blocked_at.Yield h =
    yield_resumed_lists t told_so h
wait_resumed_lists t at canon told_so place (blocked_at.Set index) h =
    set_resumed_lists at canon told_so index place h
wait_resumed_lists t at canon told_so place (blocked_at.Call callee) h =
    call_resumed_lists t at callee h
wait_resumed_lists t at canon told_so place (blocked_at.Copy index) h =
    copy_resumed_lists t at index h
wait_resumed_lists t at canon told_so place (blocked_at.Cancel index) h =
    cancel_resumed_lists t at index h

pub place_of_lists : (t : ℕ) (why : BlockedAt) (h : Held) → ListsBy h (place_of t why h)
place_of_lists t blocked_at.Entry h =
    lists_same h
place_of_lists t (blocked_at.Loop word) h =
    lists_same h
place_of_lists t blocked_at.Yield h =
    lists_same h
place_of_lists t (blocked_at.Set index) h =
    word_of_lists t 1 h
place_of_lists t (blocked_at.Call callee) h =
    lists_same h
place_of_lists t (blocked_at.Copy index) h =
    lists_same h
place_of_lists t (blocked_at.Cancel index) h =
    lists_same h

pub builtin_resumed_lists : (t : ℕ) (at : ℕ) (canon : ℕ) (why : BlockedAt) (h : Held) → ListsBy h (builtin_resumed t at canon why h)
unfolding builtin_resumed
builtin_resumed_lists t at canon why h =
    lists_after h (to_be_told t h) (λ told_so k. after (place_of t why k) (λ place l. after (happens t event.Go l) (λ done m. after (errand_set t errand.None m) (λ done n. wait_resumed t at canon told_so place why n)))) (to_be_told_lists t h) (λ told_so k. lists_after k (place_of t why k) (λ place l. after (happens t event.Go l) (λ done m. after (errand_set t errand.None m) (λ done n. wait_resumed t at canon told_so place why n))) (place_of_lists t why k) (λ place l. lists_after l (happens t event.Go l) (λ done m. after (errand_set t errand.None m) (λ done n. wait_resumed t at canon told_so place why n)) (happens_lists t event.Go l tt) (λ done m. lists_after m (errand_set t errand.None m) (λ done n. wait_resumed t at canon told_so place why n) (errand_set_lists t errand.None m) (λ done n. wait_resumed_lists t at canon told_so place why n))))

pub resumed_in_lists : (t : ℕ) (at : ℕ) (why : BlockedAt) (e : Errand) (h : Held) → ListsBy h (resumed_in t at why e h)
resumed_in_lists t at why errand.None h =
    tt
resumed_in_lists t at why (errand.AfterCall callee canon) h =
    tt
resumed_in_lists t at why (errand.AfterCancel callee canon index) h =
    tt
resumed_in_lists t at why (errand.Begins n) h =
    tt
resumed_in_lists t at why (errand.InBuiltin canon) h =
    builtin_resumed_lists t at canon why h

pub resumed_from_lists : (t : ℕ) (at : ℕ) (why : BlockedAt) (h : Held) → ListsBy h (resumed_from t at why h)
unfolding resumed_from
resumed_from_lists t at why h =
    lists_after h (errand_of t h) (λ e k. resumed_in t at why e k) (errand_of_lists t h) (λ e k. resumed_in_lists t at why e k)

pub resumed_by_lists : (t : ℕ) (at : ℕ) (far : Phase) (h : Held) → ListsBy h (resumed_by t at far h)
resumed_by_lists t at phase.New h =
    tt
resumed_by_lists t at phase.Acting h =
    tt
resumed_by_lists t at (phase.Blocked blocked_at.Entry flag) h =
    lists_same h
resumed_by_lists t at (phase.Blocked (blocked_at.Loop word) flag) h =
    loop_resumed_lists t at word h
resumed_by_lists t at (phase.Blocked blocked_at.Yield flag) h =
    resumed_from_lists t at blocked_at.Yield h
resumed_by_lists t at (phase.Blocked (blocked_at.Set index) flag) h =
    resumed_from_lists t at (blocked_at.Set index) h
resumed_by_lists t at (phase.Blocked (blocked_at.Call callee) flag) h =
    resumed_from_lists t at (blocked_at.Call callee) h
resumed_by_lists t at (phase.Blocked (blocked_at.Copy index) flag) h =
    resumed_from_lists t at (blocked_at.Copy index) h
resumed_by_lists t at (phase.Blocked (blocked_at.Cancel index) flag) h =
    resumed_from_lists t at (blocked_at.Cancel index) h
resumed_by_lists t at phase.Exited h =
    tt

pub resumes_lists : (h : Held) → ListsBy h (resumes h)
unfolding resumes
resumes_lists h =
    lists_after h (acting h) (λ t k. after (instance_of t k) (λ at l. after (phase_of t l) (λ far m. resumed_by t at far m))) (acting_lists h) (λ t k. lists_after k (instance_of t k) (λ at l. after (phase_of t l) (λ far m. resumed_by t at far m)) (instance_of_lists t k) (λ at l. lists_after l (phase_of t l) (λ far m. resumed_by t at far m) (phase_of_lists t l) (λ far m. resumed_by_lists t at far m)))
