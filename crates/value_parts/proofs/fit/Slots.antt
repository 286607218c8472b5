-- What is told of tasks, and what happens to them, changes neither the store nor a table.
use Rattle.std.proofs.Common.{◌≡◌, refl, Some}
use Rattle.std.specs.Prelude.{ℕ, ◌+◌, ◌^◌, nat_lt, Bool, if◌then◌else◌, List, [], ◌∷◌, ◌++◌, length, slice_set, Option, Some, None, Result, Ok, Err}
use Rattle.std.specs.List.{slice_get}
use Rattle.std.specs.Option.{option_and_then}
use Rattle.entry_gate.specs.declared.kind.Kind.{Kind}
use Rattle.entry_gate.specs.Kinds.{needs_entry}
use Rattle.tasks.specs.declared.event.TaskEvent.{TaskEvent}
use Rattle.tasks.specs.declared.event.Asked.{Asked}
use Rattle.tasks.specs.declared.phase.Phase.{Phase}
use Rattle.tasks.specs.declared.phase.Resolution.{Resolution}
use Rattle.tasks.specs.declared.subtask_state.SubtaskState.{SubtaskState}
use Rattle.tasks.specs.Tasks.{is_asked, is_unasked, may_cancel, state_of}
use Rattle.tasks.specs.Subtasks.{code_of, is_over}
use Rattle.task_table.specs.declared.errand.Callee.{Callee}
use Rattle.task_table.specs.declared.errand.Errand.{Errand}
use Rattle.task_table.specs.declared.refusal.EventError.{EventError}
use Rattle.task_table.specs.declared.refusal.EventError.TheVariants as event_error
use Rattle.task_table.specs.declared.slot.TaskSlot.{TaskSlot}
use Rattle.task_table.specs.Callers.{called_of, payload_of, may_raise, may_keep}
use Rattle.task_table.specs.Slots.{event_answer, advanced_slot, cancel_answer, cancelled_slot, is_to_be_told, word_at, with_word, at_errand, at_call, raised_slot, awaited_slot, told_slot, kept_slot}
use Rattle.task_table.specs.Tasks.{with_number, without, is_among_callers, unwatched, watching, parked_by}
use Rattle.world_parts.specs.Names.{task_name}
use Rattle.world_parts.specs.Held.{Held, Done, Gives, Traps, Stuck, after, given}
use Rattle.world_parts.specs.Gates.{entry_is_free}
use Rattle.world_parts.specs.Slots.{asked, asked_by, awaited, call_made, callee_of, cancel_asked, cancellable, closed, context_of, context_set, delivered, errand_of, errand_set, happened, happens, instance_of, kind_of, lends_found, next_task, parked, payload_found, phase_of, raised, reenters, resolution_of, resolved, result_found, result_kept, small, state_told, task_made, to_be_told, told_by, unasked, unparked, with_task, word_in, word_of, words_of, words_set}
use Rattle.value_parts.proofs.fit.Keeps.{Keeps, KeepsBy, keeps_after, keeps_given, keeps_if, keeps_same, keeps_all, keeps_from, keeps_instance}
use Rattle.value_parts.proofs.fit.Gates.{entry_is_free_keeps}

pub instance_of_keeps : (t : ℕ) (h : Held) → KeepsBy h (instance_of t h)
instance_of_keeps t h =
    keeps_given h (slice_get h.tasks t) (λ slot. Gives slot.instance h) (λ slot is. keeps_same h)

pub kind_of_keeps : (t : ℕ) (h : Held) → KeepsBy h (kind_of t h)
kind_of_keeps t h =
    keeps_given h (slice_get h.tasks t) (λ slot. Gives slot.task.kind h) (λ slot is. keeps_same h)

pub callee_of_keeps : (t : ℕ) (h : Held) → KeepsBy h (callee_of t h)
callee_of_keeps t h =
    keeps_given h (slice_get h.tasks t) (λ slot. Gives slot.callee h) (λ slot is. keeps_same h)

pub phase_of_keeps : (t : ℕ) (h : Held) → KeepsBy h (phase_of t h)
phase_of_keeps t h =
    keeps_given h (slice_get h.tasks t) (λ slot. Gives slot.task.phase h) (λ slot is. keeps_same h)

pub resolution_of_keeps : (t : ℕ) (h : Held) → KeepsBy h (resolution_of t h)
resolution_of_keeps t h =
    keeps_given h (slice_get h.tasks t) (λ slot. Gives slot.task.resolution h) (λ slot is. keeps_same h)

pub errand_of_keeps : (t : ℕ) (h : Held) → KeepsBy h (errand_of t h)
errand_of_keeps t h =
    keeps_given h (slice_get h.tasks t) (λ slot. Gives slot.errand h) (λ slot is. keeps_same h)

pub context_of_keeps : (t : ℕ) (number : ℕ) (h : Held) → KeepsBy h (context_of t number h)
context_of_keeps t number h =
    keeps_given h (slice_get h.tasks t) (λ slot. Gives (word_at number slot.context) h) (λ slot is. keeps_same h)

pub asked_keeps : (t : ℕ) (h : Held) → KeepsBy h (asked t h)
asked_keeps t h =
    keeps_given h (slice_get h.tasks t) (λ slot. Gives (is_asked slot.task.cancellation) h) (λ slot is. keeps_same h)

pub unasked_keeps : (t : ℕ) (h : Held) → KeepsBy h (unasked t h)
unasked_keeps t h =
    keeps_given h (slice_get h.tasks t) (λ slot. Gives (is_unasked slot.task.cancellation) h) (λ slot is. keeps_same h)

pub cancellable_keeps : (t : ℕ) (h : Held) → KeepsBy h (cancellable t h)
cancellable_keeps t h =
    keeps_given h (slice_get h.tasks t) (λ slot. Gives (may_cancel slot.task) h) (λ slot is. keeps_same h)

pub resolved_keeps : (t : ℕ) (h : Held) → KeepsBy h (resolved t h)
resolved_keeps t h =
    keeps_given h (slice_get h.tasks t) (λ slot. Gives (is_over (state_of slot.task)) h) (λ slot is. keeps_same h)

pub to_be_told_keeps : (t : ℕ) (h : Held) → KeepsBy h (to_be_told t h)
to_be_told_keeps t h =
    keeps_after h (instance_of t h) (λ at k. after (entry_is_free at k) (λ free l. given (slice_get l.tasks t) (λ slot. Gives (is_to_be_told free slot.task) l))) (instance_of_keeps t h) (λ at k. keeps_after k (entry_is_free at k) (λ free l. given (slice_get l.tasks t) (λ slot. Gives (is_to_be_told free slot.task) l)) (entry_is_free_keeps at k) (λ free l. keeps_given l (slice_get l.tasks t) (λ slot. Gives (is_to_be_told free slot.task) l) (λ slot is. keeps_same l)))

pub word_of_keeps : (t : ℕ) (number : ℕ) (h : Held) → KeepsBy h (word_of t number h)
word_of_keeps t number h =
    keeps_given h (slice_get h.tasks t) (λ slot. given (word_in slot.at_words number) (λ word. Gives word h)) (λ slot is. keeps_given h (word_in slot.at_words number) (λ word. Gives word h) (λ word is. keeps_same h))

pub words_of_keeps : (t : ℕ) (h : Held) → KeepsBy h (words_of t h)
words_of_keeps t h =
    keeps_given h (slice_get h.tasks t) (λ slot. Gives slot.at_words h) (λ slot is. keeps_same h)

pub happened_keeps : (r : Result (Unit {0}) EventError) (t : ℕ) (slot : TaskSlot) (h : Held) → KeepsBy h (happened r t slot h)
happened_keeps (Ok done) t slot h =
    keeps_all h (with_task t slot h) refl refl
happened_keeps (Err event_error.NotNow) t slot h =
    tt
happened_keeps (Err (event_error.Trap why)) t slot h =
    tt

pub happens_keeps : (t : ℕ) (e : TaskEvent) (h : Held) → KeepsBy h (happens t e h)
happens_keeps t e h =
    keeps_given h (slice_get h.tasks t) (λ slot. happened (event_answer e slot.task) t (advanced_slot e slot) h) (λ slot is. happened_keeps (event_answer e slot.task) t (advanced_slot e slot) h)

pub asked_by_keeps : (o : Option Asked) (t : ℕ) (slot : TaskSlot) (h : Held) → KeepsBy h (asked_by o t slot h)
asked_by_keeps None t slot h =
    tt
asked_by_keeps (Some case) t slot h =
    keeps_all h (with_task t slot h) refl refl

pub cancel_asked_keeps : (t : ℕ) (h : Held) → KeepsBy h (cancel_asked t h)
cancel_asked_keeps t h =
    keeps_after h (instance_of t h) (λ at k. after (entry_is_free at k) (λ free l. given (slice_get l.tasks t) (λ slot. asked_by (cancel_answer free slot.task) t (cancelled_slot free slot) l))) (instance_of_keeps t h) (λ at k. keeps_after k (entry_is_free at k) (λ free l. given (slice_get l.tasks t) (λ slot. asked_by (cancel_answer free slot.task) t (cancelled_slot free slot) l)) (entry_is_free_keeps at k) (λ free l. keeps_given l (slice_get l.tasks t) (λ slot. asked_by (cancel_answer free slot.task) t (cancelled_slot free slot) l) (λ slot is. asked_by_keeps (cancel_answer free slot.task) t (cancelled_slot free slot) l)))

pub errand_set_keeps : (t : ℕ) (errand : Errand) (h : Held) → KeepsBy h (errand_set t errand h)
errand_set_keeps t errand h =
    keeps_given h (slice_get h.tasks t) (λ slot. Gives (tt {0}) (with_task t (at_errand errand slot) h)) (λ slot is. keeps_all h (with_task t (at_errand errand slot) h) refl refl)

pub words_set_keeps : (t : ℕ) (words : List ℕ) (h : Held) → KeepsBy h (words_set t words h)
words_set_keeps t words h =
    keeps_given h (slice_get h.tasks t) (λ slot. Gives (tt {0}) (with_task t (at_call words slot) h)) (λ slot is. keeps_all h (with_task t (at_call words slot) h) refl refl)

pub context_set_keeps : (t : ℕ) (number : ℕ) (word : ℕ) (h : Held) → KeepsBy h (context_set t number word h)
context_set_keeps t number word h =
    keeps_given h (slice_get h.tasks t) (λ slot. Gives (tt {0}) (with_task t (with_word number word slot) h)) (λ slot is. keeps_all h (with_task t (with_word number word slot) h) refl refl)

pub payload_found_keeps : (t : ℕ) (h : Held) → KeepsBy h (payload_found t h)
payload_found_keeps t h =
    keeps_given h (slice_get h.tasks t) (λ slot. given (called_of slot.caller) (λ called. Gives (code_of called.subtask.state) h)) (λ slot is. keeps_given h (called_of slot.caller) (λ called. Gives (code_of called.subtask.state) h) (λ called is. keeps_same h))

pub delivered_keeps : (t : ℕ) (h : Held) → KeepsBy h (delivered t h)
delivered_keeps t h =
    keeps_given h (slice_get h.tasks t) (λ slot. given (called_of slot.caller) (λ called. Gives (is_over called.subtask.told) h)) (λ slot is. keeps_given h (called_of slot.caller) (λ called. Gives (is_over called.subtask.told) h) (λ called is. keeps_same h))

pub lends_found_keeps : (t : ℕ) (h : Held) → KeepsBy h (lends_found t h)
lends_found_keeps t h =
    keeps_given h (slice_get h.tasks t) (λ slot. given (called_of slot.caller) (λ called. Gives called.subtask.lends h)) (λ slot is. keeps_given h (called_of slot.caller) (λ called. Gives called.subtask.lends h) (λ called is. keeps_same h))

pub result_found_keeps : (t : ℕ) (h : Held) → KeepsBy h (result_found t h)
result_found_keeps t h =
    keeps_given h (slice_get h.tasks t) (λ slot. given (called_of slot.caller) (λ called. Gives called.result h)) (λ slot is. keeps_given h (called_of slot.caller) (λ called. Gives called.result h) (λ called is. keeps_same h))

pub raised_keeps : (t : ℕ) (state : SubtaskState) (h : Held) → KeepsBy h (raised t state h)
raised_keeps t state h =
    keeps_given h (slice_get h.tasks t) (λ slot. if may_raise state slot.caller then Gives (tt {0}) (with_task t (raised_slot state slot) h) else Stuck) (λ slot is. keeps_if h (may_raise state slot.caller) (Gives (tt {0}) (with_task t (raised_slot state slot) h)) (Stuck) (keeps_all h (with_task t (raised_slot state slot) h) refl refl) tt)

pub result_kept_keeps : (t : ℕ) (words : List ℕ) (h : Held) → KeepsBy h (result_kept t words h)
result_kept_keeps t words h =
    keeps_given h (slice_get h.tasks t) (λ slot. if may_keep slot.caller then Gives (tt {0}) (with_task t (kept_slot words slot) h) else Stuck) (λ slot is. keeps_if h (may_keep slot.caller) (Gives (tt {0}) (with_task t (kept_slot words slot) h)) (Stuck) (keeps_all h (with_task t (kept_slot words slot) h) refl refl) tt)

pub awaited_keeps : (t : ℕ) (is_awaited : Bool) (h : Held) → KeepsBy h (awaited t is_awaited h)
awaited_keeps t is_awaited h =
    keeps_given h (slice_get h.tasks t) (λ slot. if may_keep slot.caller then Gives (tt {0}) (with_task t (awaited_slot is_awaited slot) h) else Stuck) (λ slot is. keeps_if h (may_keep slot.caller) (Gives (tt {0}) (with_task t (awaited_slot is_awaited slot) h)) (Stuck) (keeps_all h (with_task t (awaited_slot is_awaited slot) h) refl refl) tt)

pub told_by_keeps : (o : Option ℕ) (t : ℕ) (slot : TaskSlot) (h : Held) → KeepsBy h (told_by o t slot h)
told_by_keeps None t slot h =
    tt
told_by_keeps (Some payload) t slot h =
    keeps_all h (with_task t slot h) refl refl

pub state_told_keeps : (t : ℕ) (h : Held) → KeepsBy h (state_told t h)
state_told_keeps t h =
    keeps_given h (slice_get h.tasks t) (λ slot. told_by (payload_of slot.caller) t (told_slot slot) h) (λ slot is. told_by_keeps (payload_of slot.caller) t (told_slot slot) h)

pub next_task_keeps : (h : Held) → KeepsBy h (next_task h)
next_task_keeps h =
    keeps_same h

pub task_made_keeps : (slot : TaskSlot) (h : Held) → KeepsBy h (task_made slot h)
task_made_keeps slot h =
    keeps_all h (record h { tasks = h.tasks ++ slot ∷ []; live = with_number (length h.tasks) h.live; watched = watching (length h.tasks) h.watched }) refl refl

pub closed_keeps : (t : ℕ) (h : Held) → KeepsBy h (closed t h)
closed_keeps t h =
    keeps_all h (record h { live = without t h.live; watched = unwatched t h.watched }) refl refl

pub parked_keeps : (t : ℕ) (kind : Kind) (h : Held) → KeepsBy h (parked t kind h)
parked_keeps t kind h =
    keeps_all h (record h { watched = parked_by (needs_entry kind) t h.watched }) refl refl

pub unparked_keeps : (t : ℕ) (h : Held) → KeepsBy h (unparked t h)
unparked_keeps t h =
    keeps_all h (record h { watched = watching t h.watched }) refl refl

pub call_made_keeps : (t : ℕ) (h : Held) → KeepsBy h (call_made t h)
call_made_keeps t h =
    keeps_all h (record h { calls = h.calls ++ t ∷ [] }) refl refl
