-- What is told of tasks, and what happens to them, changes neither memories nor core instances, nor ends.
use Rattle.std.proofs.Common.{refl, Some}
use Rattle.std.specs.Prelude.{ℕ, Bool, if◌then◌else◌, List, [], ◌∷◌, ◌++◌, length, Option, Some, None, Result, Ok, Err}
use Rattle.std.specs.List.{slice_get}
use Rattle.entry_gate.specs.declared.kind.Kind.{Kind}
use Rattle.entry_gate.specs.Kinds.{needs_entry}
use Rattle.tasks.specs.declared.event.TaskEvent.{TaskEvent}
use Rattle.tasks.specs.declared.event.Asked.{Asked}
use Rattle.tasks.specs.declared.subtask_state.SubtaskState.{SubtaskState}
use Rattle.tasks.specs.Tasks.{is_asked, is_unasked, may_cancel, state_of}
use Rattle.tasks.specs.Subtasks.{code_of, is_over}
use Rattle.task_table.specs.declared.errand.Errand.{Errand}
use Rattle.task_table.specs.declared.refusal.EventError.{EventError}
use Rattle.task_table.specs.declared.refusal.EventError.TheVariants as event_error
use Rattle.task_table.specs.declared.slot.TaskSlot.{TaskSlot}
use Rattle.task_table.specs.Callers.{called_of, payload_of, may_raise, may_keep}
use Rattle.task_table.specs.Slots.{event_answer, advanced_slot, cancel_answer, cancelled_slot, is_to_be_told, word_at, with_word, at_errand, at_call, raised_slot, awaited_slot, told_slot, kept_slot}
use Rattle.task_table.specs.Tasks.{with_number, without, unwatched, watching, parked_by}
use Rattle.world_parts.specs.Held.{Held, Gives, Stuck, after, given}
use Rattle.world_parts.specs.Gates.{entry_is_free}
use Rattle.world_parts.specs.Slots.{asked, asked_by, awaited, call_made, callee_of, cancel_asked, cancellable, closed, context_of, context_set, delivered, errand_of, errand_set, happened, happens, instance_of, kind_of, lends_found, next_task, parked, payload_found, phase_of, raised, resolution_of, resolved, result_found, result_kept, state_told, task_made, to_be_told, told_by, unasked, unparked, with_task, word_in, word_of, words_of, words_set}
use Rattle.run_laws.proofs.keeping.still.Still.{Kinds, StillBy, still_after, still_given, still_if, still_same, still_all}
use Rattle.run_laws.proofs.keeping.still.Gates.{entry_is_free_still}

pub instance_of_still : (W : Kinds) → (t : ℕ) (h : Held) → StillBy W h (instance_of t h)
instance_of_still W t h =
    still_given W h (slice_get h.tasks t) (λ slot. Gives slot.instance h) (λ slot is. still_same W h)

pub kind_of_still : (W : Kinds) → (t : ℕ) (h : Held) → StillBy W h (kind_of t h)
kind_of_still W t h =
    still_given W h (slice_get h.tasks t) (λ slot. Gives slot.task.kind h) (λ slot is. still_same W h)

pub callee_of_still : (W : Kinds) → (t : ℕ) (h : Held) → StillBy W h (callee_of t h)
callee_of_still W t h =
    still_given W h (slice_get h.tasks t) (λ slot. Gives slot.callee h) (λ slot is. still_same W h)

pub phase_of_still : (W : Kinds) → (t : ℕ) (h : Held) → StillBy W h (phase_of t h)
phase_of_still W t h =
    still_given W h (slice_get h.tasks t) (λ slot. Gives slot.task.phase h) (λ slot is. still_same W h)

pub resolution_of_still : (W : Kinds) → (t : ℕ) (h : Held) → StillBy W h (resolution_of t h)
resolution_of_still W t h =
    still_given W h (slice_get h.tasks t) (λ slot. Gives slot.task.resolution h) (λ slot is. still_same W h)

pub errand_of_still : (W : Kinds) → (t : ℕ) (h : Held) → StillBy W h (errand_of t h)
errand_of_still W t h =
    still_given W h (slice_get h.tasks t) (λ slot. Gives slot.errand h) (λ slot is. still_same W h)

pub context_of_still : (W : Kinds) → (t : ℕ) (number : ℕ) (h : Held) → StillBy W h (context_of t number h)
context_of_still W t number h =
    still_given W h (slice_get h.tasks t) (λ slot. Gives (word_at number slot.context) h) (λ slot is. still_same W h)

pub asked_still : (W : Kinds) → (t : ℕ) (h : Held) → StillBy W h (asked t h)
asked_still W t h =
    still_given W h (slice_get h.tasks t) (λ slot. Gives (is_asked slot.task.cancellation) h) (λ slot is. still_same W h)

pub unasked_still : (W : Kinds) → (t : ℕ) (h : Held) → StillBy W h (unasked t h)
unasked_still W t h =
    still_given W h (slice_get h.tasks t) (λ slot. Gives (is_unasked slot.task.cancellation) h) (λ slot is. still_same W h)

pub cancellable_still : (W : Kinds) → (t : ℕ) (h : Held) → StillBy W h (cancellable t h)
cancellable_still W t h =
    still_given W h (slice_get h.tasks t) (λ slot. Gives (may_cancel slot.task) h) (λ slot is. still_same W h)

pub resolved_still : (W : Kinds) → (t : ℕ) (h : Held) → StillBy W h (resolved t h)
resolved_still W t h =
    still_given W h (slice_get h.tasks t) (λ slot. Gives (is_over (state_of slot.task)) h) (λ slot is. still_same W h)

pub to_be_told_still : (W : Kinds) → (t : ℕ) (h : Held) → StillBy W h (to_be_told t h)
to_be_told_still W t h =
    still_after W h (instance_of t h) (λ at k. after (entry_is_free at k) (λ free l. given (slice_get l.tasks t) (λ slot. Gives (is_to_be_told free slot.task) l))) (instance_of_still W t h) (λ at k. still_after W k (entry_is_free at k) (λ free l. given (slice_get l.tasks t) (λ slot. Gives (is_to_be_told free slot.task) l)) (entry_is_free_still W at k) (λ free l. still_given W l (slice_get l.tasks t) (λ slot. Gives (is_to_be_told free slot.task) l) (λ slot is. still_same W l)))

pub word_of_still : (W : Kinds) → (t : ℕ) (number : ℕ) (h : Held) → StillBy W h (word_of t number h)
word_of_still W t number h =
    still_given W h (slice_get h.tasks t) (λ slot. given (word_in slot.at_words number) (λ word. Gives word h)) (λ slot is. still_given W h (word_in slot.at_words number) (λ word. Gives word h) (λ word is. still_same W h))

pub words_of_still : (W : Kinds) → (t : ℕ) (h : Held) → StillBy W h (words_of t h)
words_of_still W t h =
    still_given W h (slice_get h.tasks t) (λ slot. Gives slot.at_words h) (λ slot is. still_same W h)

pub happened_still : (W : Kinds) → (r : Result (Unit {0}) EventError) (t : ℕ) (slot : TaskSlot) (h : Held) → StillBy W h (happened r t slot h)
happened_still W (Ok done) t slot h =
    still_all W h (with_task t slot h) refl refl refl refl refl
happened_still W (Err event_error.NotNow) t slot h =
    tt
happened_still W (Err (event_error.Trap why)) t slot h =
    (still_all W h (with_task t slot h) refl refl refl refl refl).ends

pub happens_still : (W : Kinds) → (t : ℕ) (e : TaskEvent) (h : Held) → StillBy W h (happens t e h)
happens_still W t e h =
    still_given W h (slice_get h.tasks t) (λ slot. happened (event_answer e slot.task) t (advanced_slot e slot) h) (λ slot is. happened_still W (event_answer e slot.task) t (advanced_slot e slot) h)

pub asked_by_still : (W : Kinds) → (o : Option Asked) (t : ℕ) (slot : TaskSlot) (h : Held) → StillBy W h (asked_by o t slot h)
asked_by_still W None t slot h =
    tt
asked_by_still W (Some case) t slot h =
    still_all W h (with_task t slot h) refl refl refl refl refl

pub cancel_asked_still : (W : Kinds) → (t : ℕ) (h : Held) → StillBy W h (cancel_asked t h)
cancel_asked_still W t h =
    still_after W h (instance_of t h) (λ at k. after (entry_is_free at k) (λ free l. given (slice_get l.tasks t) (λ slot. asked_by (cancel_answer free slot.task) t (cancelled_slot free slot) l))) (instance_of_still W t h) (λ at k. still_after W k (entry_is_free at k) (λ free l. given (slice_get l.tasks t) (λ slot. asked_by (cancel_answer free slot.task) t (cancelled_slot free slot) l)) (entry_is_free_still W at k) (λ free l. still_given W l (slice_get l.tasks t) (λ slot. asked_by (cancel_answer free slot.task) t (cancelled_slot free slot) l) (λ slot is. asked_by_still W (cancel_answer free slot.task) t (cancelled_slot free slot) l)))

pub errand_set_still : (W : Kinds) → (t : ℕ) (errand : Errand) (h : Held) → StillBy W h (errand_set t errand h)
errand_set_still W t errand h =
    still_given W h (slice_get h.tasks t) (λ slot. Gives (tt {0}) (with_task t (at_errand errand slot) h)) (λ slot is. still_all W h (with_task t (at_errand errand slot) h) refl refl refl refl refl)

pub words_set_still : (W : Kinds) → (t : ℕ) (words : List ℕ) (h : Held) → StillBy W h (words_set t words h)
words_set_still W t words h =
    still_given W h (slice_get h.tasks t) (λ slot. Gives (tt {0}) (with_task t (at_call words slot) h)) (λ slot is. still_all W h (with_task t (at_call words slot) h) refl refl refl refl refl)

pub context_set_still : (W : Kinds) → (t : ℕ) (number : ℕ) (word : ℕ) (h : Held) → StillBy W h (context_set t number word h)
context_set_still W t number word h =
    still_given W h (slice_get h.tasks t) (λ slot. Gives (tt {0}) (with_task t (with_word number word slot) h)) (λ slot is. still_all W h (with_task t (with_word number word slot) h) refl refl refl refl refl)

pub payload_found_still : (W : Kinds) → (t : ℕ) (h : Held) → StillBy W h (payload_found t h)
payload_found_still W t h =
    still_given W h (slice_get h.tasks t) (λ slot. given (called_of slot.caller) (λ called. Gives (code_of called.subtask.state) h)) (λ slot is. still_given W h (called_of slot.caller) (λ called. Gives (code_of called.subtask.state) h) (λ called is. still_same W h))

pub delivered_still : (W : Kinds) → (t : ℕ) (h : Held) → StillBy W h (delivered t h)
delivered_still W t h =
    still_given W h (slice_get h.tasks t) (λ slot. given (called_of slot.caller) (λ called. Gives (is_over called.subtask.told) h)) (λ slot is. still_given W h (called_of slot.caller) (λ called. Gives (is_over called.subtask.told) h) (λ called is. still_same W h))

pub lends_found_still : (W : Kinds) → (t : ℕ) (h : Held) → StillBy W h (lends_found t h)
lends_found_still W t h =
    still_given W h (slice_get h.tasks t) (λ slot. given (called_of slot.caller) (λ called. Gives called.subtask.lends h)) (λ slot is. still_given W h (called_of slot.caller) (λ called. Gives called.subtask.lends h) (λ called is. still_same W h))

pub result_found_still : (W : Kinds) → (t : ℕ) (h : Held) → StillBy W h (result_found t h)
result_found_still W t h =
    still_given W h (slice_get h.tasks t) (λ slot. given (called_of slot.caller) (λ called. Gives called.result h)) (λ slot is. still_given W h (called_of slot.caller) (λ called. Gives called.result h) (λ called is. still_same W h))

pub raised_still : (W : Kinds) → (t : ℕ) (state : SubtaskState) (h : Held) → StillBy W h (raised t state h)
raised_still W t state h =
    still_given W h (slice_get h.tasks t) (λ slot. if may_raise state slot.caller then Gives (tt {0}) (with_task t (raised_slot state slot) h) else Stuck) (λ slot is. still_if W h (may_raise state slot.caller) (Gives (tt {0}) (with_task t (raised_slot state slot) h)) (Stuck) (still_all W h (with_task t (raised_slot state slot) h) refl refl refl refl refl) tt)

pub result_kept_still : (W : Kinds) → (t : ℕ) (words : List ℕ) (h : Held) → StillBy W h (result_kept t words h)
result_kept_still W t words h =
    still_given W h (slice_get h.tasks t) (λ slot. if may_keep slot.caller then Gives (tt {0}) (with_task t (kept_slot words slot) h) else Stuck) (λ slot is. still_if W h (may_keep slot.caller) (Gives (tt {0}) (with_task t (kept_slot words slot) h)) (Stuck) (still_all W h (with_task t (kept_slot words slot) h) refl refl refl refl refl) tt)

pub awaited_still : (W : Kinds) → (t : ℕ) (is_awaited : Bool) (h : Held) → StillBy W h (awaited t is_awaited h)
awaited_still W t is_awaited h =
    still_given W h (slice_get h.tasks t) (λ slot. if may_keep slot.caller then Gives (tt {0}) (with_task t (awaited_slot is_awaited slot) h) else Stuck) (λ slot is. still_if W h (may_keep slot.caller) (Gives (tt {0}) (with_task t (awaited_slot is_awaited slot) h)) (Stuck) (still_all W h (with_task t (awaited_slot is_awaited slot) h) refl refl refl refl refl) tt)

pub told_by_still : (W : Kinds) → (o : Option ℕ) (t : ℕ) (slot : TaskSlot) (h : Held) → StillBy W h (told_by o t slot h)
told_by_still W None t slot h =
    tt
told_by_still W (Some payload) t slot h =
    still_all W h (with_task t slot h) refl refl refl refl refl

pub state_told_still : (W : Kinds) → (t : ℕ) (h : Held) → StillBy W h (state_told t h)
state_told_still W t h =
    still_given W h (slice_get h.tasks t) (λ slot. told_by (payload_of slot.caller) t (told_slot slot) h) (λ slot is. told_by_still W (payload_of slot.caller) t (told_slot slot) h)

pub next_task_still : (W : Kinds) → (h : Held) → StillBy W h (next_task h)
next_task_still W h =
    still_same W h

pub task_made_still : (W : Kinds) → (slot : TaskSlot) (h : Held) → StillBy W h (task_made slot h)
task_made_still W slot h =
    still_all W h (record h { tasks = h.tasks ++ slot ∷ []; live = with_number (length h.tasks) h.live; watched = watching (length h.tasks) h.watched }) refl refl refl refl refl

pub closed_still : (W : Kinds) → (t : ℕ) (h : Held) → StillBy W h (closed t h)
closed_still W t h =
    still_all W h (record h { live = without t h.live; watched = unwatched t h.watched }) refl refl refl refl refl

pub parked_still : (W : Kinds) → (t : ℕ) (kind : Kind) (h : Held) → StillBy W h (parked t kind h)
parked_still W t kind h =
    still_all W h (record h { watched = parked_by (needs_entry kind) t h.watched }) refl refl refl refl refl

pub unparked_still : (W : Kinds) → (t : ℕ) (h : Held) → StillBy W h (unparked t h)
unparked_still W t h =
    still_all W h (record h { watched = watching t h.watched }) refl refl refl refl refl

pub call_made_still : (W : Kinds) → (t : ℕ) (h : Held) → StillBy W h (call_made t h)
call_made_still W t h =
    still_all W h (record h { calls = h.calls ++ t ∷ [] }) refl refl refl refl refl
