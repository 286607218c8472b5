-- What is told of tasks, and what happens to them: the chain and the number of tasks stay, but where a part rests.
use Rattle.std.proofs.Common.{refl, Some}
use Rattle.std.specs.Prelude.{ℕ, Bool, if◌then◌else◌, List, Option, Some, None, Result, Ok, Err}
use Rattle.std.specs.List.{slice_get}
use Rattle.entry_gate.specs.declared.kind.Kind.{Kind}
use Rattle.entry_gate.specs.Kinds.{needs_entry}
use Rattle.tasks.specs.declared.event.TaskEvent.{TaskEvent}
use Rattle.tasks.specs.declared.event.Asked.{Asked}
use Rattle.tasks.specs.declared.subtask_state.SubtaskState.{SubtaskState}
use Rattle.tasks.specs.Tasks.{is_asked, is_unasked, may_cancel, state_of}
use Rattle.tasks.specs.Subtasks.{code_of, is_over}
use Rattle.task_table.specs.declared.errand.Errand.{Errand}
use Rattle.task_table.specs.declared.refusal.EventError.{EventError}
use Rattle.task_table.specs.declared.refusal.EventError.TheVariants as event_error
use Rattle.task_table.specs.declared.slot.TaskSlot.{TaskSlot}
use Rattle.task_table.specs.Callers.{called_of, payload_of, may_raise, may_keep}
use Rattle.task_table.specs.Slots.{event_answer, advanced_slot, cancel_answer, cancelled_slot, is_to_be_told, word_at, with_word, at_errand, at_call, raised_slot, awaited_slot, told_slot, kept_slot}
use Rattle.task_table.specs.Tasks.{without, unwatched, watching, parked_by}
use Rattle.world_parts.specs.Held.{Held, Gives, Stuck, after, given}
use Rattle.world_parts.specs.Gates.{entry_is_free}
use Rattle.world_parts.specs.Slots.{asked, asked_by, awaited, callee_of, cancel_asked, cancellable, closed, context_of, context_set, delivered, errand_of, errand_set, happened, happens, instance_of, kind_of, lends_found, next_task, parked, payload_found, phase_of, raised, resolution_of, resolved, result_found, result_kept, state_told, to_be_told, told_by, unasked, unparked, with_task, word_in, word_of, words_of, words_set}
use Rattle.run_laws.proofs.stays.Gates.{entry_is_free_stays}
use Rattle.run_laws.proofs.stays.Same.{StaysBy, stays_after, stays_given, stays_if, stays_same, stays_all, task_long}

pub instance_of_stays : (t : ℕ) (h : Held) → StaysBy h (instance_of t h)
instance_of_stays t h =
    stays_given h (slice_get h.tasks t) (λ slot. Gives slot.instance h) (λ slot is. stays_same h)

pub kind_of_stays : (t : ℕ) (h : Held) → StaysBy h (kind_of t h)
kind_of_stays t h =
    stays_given h (slice_get h.tasks t) (λ slot. Gives slot.task.kind h) (λ slot is. stays_same h)

pub callee_of_stays : (t : ℕ) (h : Held) → StaysBy h (callee_of t h)
callee_of_stays t h =
    stays_given h (slice_get h.tasks t) (λ slot. Gives slot.callee h) (λ slot is. stays_same h)

pub phase_of_stays : (t : ℕ) (h : Held) → StaysBy h (phase_of t h)
phase_of_stays t h =
    stays_given h (slice_get h.tasks t) (λ slot. Gives slot.task.phase h) (λ slot is. stays_same h)

pub resolution_of_stays : (t : ℕ) (h : Held) → StaysBy h (resolution_of t h)
resolution_of_stays t h =
    stays_given h (slice_get h.tasks t) (λ slot. Gives slot.task.resolution h) (λ slot is. stays_same h)

pub errand_of_stays : (t : ℕ) (h : Held) → StaysBy h (errand_of t h)
errand_of_stays t h =
    stays_given h (slice_get h.tasks t) (λ slot. Gives slot.errand h) (λ slot is. stays_same h)

pub context_of_stays : (t : ℕ) (number : ℕ) (h : Held) → StaysBy h (context_of t number h)
context_of_stays t number h =
    stays_given h (slice_get h.tasks t) (λ slot. Gives (word_at number slot.context) h) (λ slot is. stays_same h)

pub asked_stays : (t : ℕ) (h : Held) → StaysBy h (asked t h)
asked_stays t h =
    stays_given h (slice_get h.tasks t) (λ slot. Gives (is_asked slot.task.cancellation) h) (λ slot is. stays_same h)

pub unasked_stays : (t : ℕ) (h : Held) → StaysBy h (unasked t h)
unasked_stays t h =
    stays_given h (slice_get h.tasks t) (λ slot. Gives (is_unasked slot.task.cancellation) h) (λ slot is. stays_same h)

pub cancellable_stays : (t : ℕ) (h : Held) → StaysBy h (cancellable t h)
cancellable_stays t h =
    stays_given h (slice_get h.tasks t) (λ slot. Gives (may_cancel slot.task) h) (λ slot is. stays_same h)

pub resolved_stays : (t : ℕ) (h : Held) → StaysBy h (resolved t h)
resolved_stays t h =
    stays_given h (slice_get h.tasks t) (λ slot. Gives (is_over (state_of slot.task)) h) (λ slot is. stays_same h)

pub to_be_told_stays : (t : ℕ) (h : Held) → StaysBy h (to_be_told t h)
to_be_told_stays t h =
    stays_after h (instance_of t h) (λ at k. after (entry_is_free at k) (λ free l. given (slice_get l.tasks t) (λ slot. Gives (is_to_be_told free slot.task) l))) (instance_of_stays t h) (λ at k. stays_after k (entry_is_free at k) (λ free l. given (slice_get l.tasks t) (λ slot. Gives (is_to_be_told free slot.task) l)) (entry_is_free_stays at k) (λ free l. stays_given l (slice_get l.tasks t) (λ slot. Gives (is_to_be_told free slot.task) l) (λ slot is. stays_same l)))

pub word_of_stays : (t : ℕ) (number : ℕ) (h : Held) → StaysBy h (word_of t number h)
word_of_stays t number h =
    stays_given h (slice_get h.tasks t) (λ slot. given (word_in slot.at_words number) (λ word. Gives word h)) (λ slot is. stays_given h (word_in slot.at_words number) (λ word. Gives word h) (λ word is. stays_same h))

pub words_of_stays : (t : ℕ) (h : Held) → StaysBy h (words_of t h)
words_of_stays t h =
    stays_given h (slice_get h.tasks t) (λ slot. Gives slot.at_words h) (λ slot is. stays_same h)

pub happened_stays : (r : Result (Unit {0}) EventError) (t : ℕ) (slot : TaskSlot) (h : Held) → StaysBy h (happened r t slot h)
happened_stays (Ok done) t slot h =
    stays_all h (with_task t slot h) refl (task_long h t slot)
happened_stays (Err event_error.NotNow) t slot h =
    tt
happened_stays (Err (event_error.Trap why)) t slot h =
    tt

pub happens_stays : (t : ℕ) (e : TaskEvent) (h : Held) → StaysBy h (happens t e h)
happens_stays t e h =
    stays_given h (slice_get h.tasks t) (λ slot. happened (event_answer e slot.task) t (advanced_slot e slot) h) (λ slot is. happened_stays (event_answer e slot.task) t (advanced_slot e slot) h)

pub asked_by_stays : (o : Option Asked) (t : ℕ) (slot : TaskSlot) (h : Held) → StaysBy h (asked_by o t slot h)
asked_by_stays None t slot h =
    tt
asked_by_stays (Some case) t slot h =
    stays_all h (with_task t slot h) refl (task_long h t slot)

pub cancel_asked_stays : (t : ℕ) (h : Held) → StaysBy h (cancel_asked t h)
cancel_asked_stays t h =
    stays_after h (instance_of t h) (λ at k. after (entry_is_free at k) (λ free l. given (slice_get l.tasks t) (λ slot. asked_by (cancel_answer free slot.task) t (cancelled_slot free slot) l))) (instance_of_stays t h) (λ at k. stays_after k (entry_is_free at k) (λ free l. given (slice_get l.tasks t) (λ slot. asked_by (cancel_answer free slot.task) t (cancelled_slot free slot) l)) (entry_is_free_stays at k) (λ free l. stays_given l (slice_get l.tasks t) (λ slot. asked_by (cancel_answer free slot.task) t (cancelled_slot free slot) l) (λ slot is. asked_by_stays (cancel_answer free slot.task) t (cancelled_slot free slot) l)))

pub errand_set_stays : (t : ℕ) (errand : Errand) (h : Held) → StaysBy h (errand_set t errand h)
errand_set_stays t errand h =
    stays_given h (slice_get h.tasks t) (λ slot. Gives (tt {0}) (with_task t (at_errand errand slot) h)) (λ slot is. stays_all h (with_task t (at_errand errand slot) h) refl (task_long h t (at_errand errand slot)))

pub words_set_stays : (t : ℕ) (words : List ℕ) (h : Held) → StaysBy h (words_set t words h)
words_set_stays t words h =
    stays_given h (slice_get h.tasks t) (λ slot. Gives (tt {0}) (with_task t (at_call words slot) h)) (λ slot is. stays_all h (with_task t (at_call words slot) h) refl (task_long h t (at_call words slot)))

pub context_set_stays : (t : ℕ) (number : ℕ) (word : ℕ) (h : Held) → StaysBy h (context_set t number word h)
context_set_stays t number word h =
    stays_given h (slice_get h.tasks t) (λ slot. Gives (tt {0}) (with_task t (with_word number word slot) h)) (λ slot is. stays_all h (with_task t (with_word number word slot) h) refl (task_long h t (with_word number word slot)))

pub payload_found_stays : (t : ℕ) (h : Held) → StaysBy h (payload_found t h)
payload_found_stays t h =
    stays_given h (slice_get h.tasks t) (λ slot. given (called_of slot.caller) (λ called. Gives (code_of called.subtask.state) h)) (λ slot is. stays_given h (called_of slot.caller) (λ called. Gives (code_of called.subtask.state) h) (λ called is. stays_same h))

pub delivered_stays : (t : ℕ) (h : Held) → StaysBy h (delivered t h)
delivered_stays t h =
    stays_given h (slice_get h.tasks t) (λ slot. given (called_of slot.caller) (λ called. Gives (is_over called.subtask.told) h)) (λ slot is. stays_given h (called_of slot.caller) (λ called. Gives (is_over called.subtask.told) h) (λ called is. stays_same h))

pub lends_found_stays : (t : ℕ) (h : Held) → StaysBy h (lends_found t h)
lends_found_stays t h =
    stays_given h (slice_get h.tasks t) (λ slot. given (called_of slot.caller) (λ called. Gives called.subtask.lends h)) (λ slot is. stays_given h (called_of slot.caller) (λ called. Gives called.subtask.lends h) (λ called is. stays_same h))

pub result_found_stays : (t : ℕ) (h : Held) → StaysBy h (result_found t h)
result_found_stays t h =
    stays_given h (slice_get h.tasks t) (λ slot. given (called_of slot.caller) (λ called. Gives called.result h)) (λ slot is. stays_given h (called_of slot.caller) (λ called. Gives called.result h) (λ called is. stays_same h))

pub raised_stays : (t : ℕ) (state : SubtaskState) (h : Held) → StaysBy h (raised t state h)
raised_stays t state h =
    stays_given h (slice_get h.tasks t) (λ slot. if may_raise state slot.caller then Gives (tt {0}) (with_task t (raised_slot state slot) h) else Stuck) (λ slot is. stays_if h (may_raise state slot.caller) (Gives (tt {0}) (with_task t (raised_slot state slot) h)) (Stuck) (stays_all h (with_task t (raised_slot state slot) h) refl (task_long h t (raised_slot state slot))) tt)

pub result_kept_stays : (t : ℕ) (words : List ℕ) (h : Held) → StaysBy h (result_kept t words h)
result_kept_stays t words h =
    stays_given h (slice_get h.tasks t) (λ slot. if may_keep slot.caller then Gives (tt {0}) (with_task t (kept_slot words slot) h) else Stuck) (λ slot is. stays_if h (may_keep slot.caller) (Gives (tt {0}) (with_task t (kept_slot words slot) h)) (Stuck) (stays_all h (with_task t (kept_slot words slot) h) refl (task_long h t (kept_slot words slot))) tt)

pub awaited_stays : (t : ℕ) (is_awaited : Bool) (h : Held) → StaysBy h (awaited t is_awaited h)
awaited_stays t is_awaited h =
    stays_given h (slice_get h.tasks t) (λ slot. if may_keep slot.caller then Gives (tt {0}) (with_task t (awaited_slot is_awaited slot) h) else Stuck) (λ slot is. stays_if h (may_keep slot.caller) (Gives (tt {0}) (with_task t (awaited_slot is_awaited slot) h)) (Stuck) (stays_all h (with_task t (awaited_slot is_awaited slot) h) refl (task_long h t (awaited_slot is_awaited slot))) tt)

pub told_by_stays : (o : Option ℕ) (t : ℕ) (slot : TaskSlot) (h : Held) → StaysBy h (told_by o t slot h)
told_by_stays None t slot h =
    tt
told_by_stays (Some payload) t slot h =
    stays_all h (with_task t slot h) refl (task_long h t slot)

pub state_told_stays : (t : ℕ) (h : Held) → StaysBy h (state_told t h)
state_told_stays t h =
    stays_given h (slice_get h.tasks t) (λ slot. told_by (payload_of slot.caller) t (told_slot slot) h) (λ slot is. told_by_stays (payload_of slot.caller) t (told_slot slot) h)

pub next_task_stays : (h : Held) → StaysBy h (next_task h)
next_task_stays h =
    stays_same h

pub closed_stays : (t : ℕ) (h : Held) → StaysBy h (closed t h)
closed_stays t h =
    stays_all h (record h { live = without t h.live; watched = unwatched t h.watched }) refl refl

pub parked_stays : (t : ℕ) (kind : Kind) (h : Held) → StaysBy h (parked t kind h)
parked_stays t kind h =
    stays_all h (record h { watched = parked_by (needs_entry kind) t h.watched }) refl refl

pub unparked_stays : (t : ℕ) (h : Held) → StaysBy h (unparked t h)
unparked_stays t h =
    stays_all h (record h { watched = watching t h.watched }) refl refl
