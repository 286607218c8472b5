-- What is told of tasks, and what happens to them: what is kept well stays so.
use Rattle.std.proofs.Common.{◌≡◌, false, refl, Some}
use Rattle.std.specs.Prelude.{ℕ, if◌then◌else◌, List, [], ◌∷◌, ◌++◌, Option, Some, None, Result, Ok, Err}
use Rattle.std.specs.List.{slice_get}
use Rattle.entry_gate.specs.declared.kind.Kind.{Kind}
use Rattle.entry_gate.specs.Kinds.{needs_entry}
use Rattle.tasks.specs.declared.event.TaskEvent.{TaskEvent}
use Rattle.tasks.specs.declared.event.Asked.{Asked}
use Rattle.tasks.specs.declared.subtask_state.SubtaskState.{SubtaskState}
use Rattle.tasks.specs.Tasks.{is_asked, is_unasked, may_cancel, state_of}
use Rattle.tasks.specs.Subtasks.{code_of, is_over}
use Rattle.task_table.specs.declared.errand.Errand.{Errand}
use Rattle.task_table.specs.declared.refusal.EventError.{EventError}
use Rattle.task_table.specs.declared.refusal.EventError.TheVariants as event_error
use Rattle.task_table.specs.declared.slot.TaskSlot.{TaskSlot}
use Rattle.task_table.specs.Callers.{called_of, payload_of, may_raise, may_keep}
use Rattle.task_table.specs.Slots.{event_answer, advanced_slot, cancel_answer, cancelled_slot, is_to_be_told, word_at, with_word, at_errand, at_call, raised_slot, awaited_slot, told_slot, kept_slot}
use Rattle.task_table.specs.Tasks.{without, unwatched, watching, parked_by}
use Rattle.world_parts.specs.Held.{Held, Gives, Stuck, after, given}
use Rattle.world_parts.specs.Gates.{entry_is_free}
use Rattle.world_parts.specs.Slots.{asked, asked_by, call_made, awaited, callee_of, cancel_asked, cancellable, closed, context_of, context_set, delivered, errand_of, errand_set, happened, happens, instance_of, kind_of, lends_found, next_task, parked, payload_found, phase_of, raised, resolution_of, resolved, result_found, result_kept, state_told, to_be_told, told_by, unasked, unparked, with_task, word_in, word_of, words_of, words_set}
use Rattle.run_laws.specs.keeping.Well.{KeepsWell}
use Rattle.run_laws.proofs.well.Gates.{entry_is_free_well}
use Rattle.run_laws.proofs.well.Behind.{well_after, well_given, well_if, well_same, well_all}
use Rattle.run_laws.proofs.well.Rises.{SlotRises, well_task, NoCall, errand_rises, words_rise, context_rises, event_rises, cancelled_rises, raised_slot_rises, told_slot_rises, kept_slot_rises, unawaited_rises}

pub instance_of_well : (t : ℕ) (h : Held) → KeepsWell h (instance_of t h)
instance_of_well t h =
    well_given h (slice_get h.tasks t) (λ slot. Gives slot.instance h) (λ slot is. well_same h)

pub kind_of_well : (t : ℕ) (h : Held) → KeepsWell h (kind_of t h)
kind_of_well t h =
    well_given h (slice_get h.tasks t) (λ slot. Gives slot.task.kind h) (λ slot is. well_same h)

pub callee_of_well : (t : ℕ) (h : Held) → KeepsWell h (callee_of t h)
callee_of_well t h =
    well_given h (slice_get h.tasks t) (λ slot. Gives slot.callee h) (λ slot is. well_same h)

pub phase_of_well : (t : ℕ) (h : Held) → KeepsWell h (phase_of t h)
phase_of_well t h =
    well_given h (slice_get h.tasks t) (λ slot. Gives slot.task.phase h) (λ slot is. well_same h)

pub resolution_of_well : (t : ℕ) (h : Held) → KeepsWell h (resolution_of t h)
resolution_of_well t h =
    well_given h (slice_get h.tasks t) (λ slot. Gives slot.task.resolution h) (λ slot is. well_same h)

pub errand_of_well : (t : ℕ) (h : Held) → KeepsWell h (errand_of t h)
errand_of_well t h =
    well_given h (slice_get h.tasks t) (λ slot. Gives slot.errand h) (λ slot is. well_same h)

pub context_of_well : (t : ℕ) (number : ℕ) (h : Held) → KeepsWell h (context_of t number h)
context_of_well t number h =
    well_given h (slice_get h.tasks t) (λ slot. Gives (word_at number slot.context) h) (λ slot is. well_same h)

pub asked_well : (t : ℕ) (h : Held) → KeepsWell h (asked t h)
asked_well t h =
    well_given h (slice_get h.tasks t) (λ slot. Gives (is_asked slot.task.cancellation) h) (λ slot is. well_same h)

pub unasked_well : (t : ℕ) (h : Held) → KeepsWell h (unasked t h)
unasked_well t h =
    well_given h (slice_get h.tasks t) (λ slot. Gives (is_unasked slot.task.cancellation) h) (λ slot is. well_same h)

pub cancellable_well : (t : ℕ) (h : Held) → KeepsWell h (cancellable t h)
cancellable_well t h =
    well_given h (slice_get h.tasks t) (λ slot. Gives (may_cancel slot.task) h) (λ slot is. well_same h)

pub resolved_well : (t : ℕ) (h : Held) → KeepsWell h (resolved t h)
resolved_well t h =
    well_given h (slice_get h.tasks t) (λ slot. Gives (is_over (state_of slot.task)) h) (λ slot is. well_same h)

pub to_be_told_well : (t : ℕ) (h : Held) → KeepsWell h (to_be_told t h)
to_be_told_well t h =
    well_after h (instance_of t h) (λ at k. after (entry_is_free at k) (λ free l. given (slice_get l.tasks t) (λ slot. Gives (is_to_be_told free slot.task) l))) (instance_of_well t h) (λ at k. well_after k (entry_is_free at k) (λ free l. given (slice_get l.tasks t) (λ slot. Gives (is_to_be_told free slot.task) l)) (entry_is_free_well at k) (λ free l. well_given l (slice_get l.tasks t) (λ slot. Gives (is_to_be_told free slot.task) l) (λ slot is. well_same l)))

pub word_of_well : (t : ℕ) (number : ℕ) (h : Held) → KeepsWell h (word_of t number h)
word_of_well t number h =
    well_given h (slice_get h.tasks t) (λ slot. given (word_in slot.at_words number) (λ word. Gives word h)) (λ slot is. well_given h (word_in slot.at_words number) (λ word. Gives word h) (λ word is. well_same h))

pub words_of_well : (t : ℕ) (h : Held) → KeepsWell h (words_of t h)
words_of_well t h =
    well_given h (slice_get h.tasks t) (λ slot. Gives slot.at_words h) (λ slot is. well_same h)

-- A task is another one.
happened_well : (r : Result (Unit {0}) EventError) (t : ℕ) (x y : TaskSlot) (h : Held) → slice_get h.tasks t ≡ Some x → SlotRises x y → KeepsWell h (happened r t y h)
happened_well (Ok done) t x y h is rises = well_task h t x y is rises
happened_well (Err event_error.NotNow) t x y h is rises = tt
happened_well (Err (event_error.Trap why)) t x y h is rises = tt

pub happens_well : (t : ℕ) (e : TaskEvent) (h : Held) → KeepsWell h (happens t e h)
happens_well t e h =
    well_given h (slice_get h.tasks t) (λ slot. happened (event_answer e slot.task) t (advanced_slot e slot) h)
    (λ slot is. happened_well (event_answer e slot.task) t slot (advanced_slot e slot) h is (event_rises e slot))

asked_by_well : (o : Option Asked) (t : ℕ) (x y : TaskSlot) (h : Held) → slice_get h.tasks t ≡ Some x → SlotRises x y → KeepsWell h (asked_by o t y h)
asked_by_well None t x y h is rises = tt
asked_by_well (Some case) t x y h is rises = well_task h t x y is rises

pub cancel_asked_well : (t : ℕ) (h : Held) → KeepsWell h (cancel_asked t h)
cancel_asked_well t h =
    well_after h (instance_of t h) (λ at k. after (entry_is_free at k) (λ free l. given (slice_get l.tasks t) (λ slot. asked_by (cancel_answer free slot.task) t (cancelled_slot free slot) l)))
    (instance_of_well t h)
    (λ at k.
    well_after k (entry_is_free at k) (λ free l. given (slice_get l.tasks t) (λ slot. asked_by (cancel_answer free slot.task) t (cancelled_slot free slot) l)) (entry_is_free_well at k)
    (λ free l.
    well_given l (slice_get l.tasks t) (λ slot. asked_by (cancel_answer free slot.task) t (cancelled_slot free slot) l)
    (λ slot is. asked_by_well (cancel_answer free slot.task) t slot (cancelled_slot free slot) l is (cancelled_rises free slot))))

-- What it is at, which is no call, and words, are others.
pub errand_set_well : (t : ℕ) (errand : Errand) (h : Held) → NoCall errand → KeepsWell h (errand_set t errand h)
errand_set_well t errand h q =
    well_given h (slice_get h.tasks t) (λ slot. Gives (tt {0}) (with_task t (at_errand errand slot) h)) (λ slot is. well_task h t slot (at_errand errand slot) is (errand_rises errand slot q))

pub words_set_well : (t : ℕ) (words : List ℕ) (h : Held) → KeepsWell h (words_set t words h)
words_set_well t words h =
    well_given h (slice_get h.tasks t) (λ slot. Gives (tt {0}) (with_task t (at_call words slot) h)) (λ slot is. well_task h t slot (at_call words slot) is (words_rise words slot))

pub context_set_well : (t : ℕ) (number : ℕ) (word : ℕ) (h : Held) → KeepsWell h (context_set t number word h)
context_set_well t number word h =
    well_given h (slice_get h.tasks t) (λ slot. Gives (tt {0}) (with_task t (with_word number word slot) h))
    (λ slot is. well_task h t slot (with_word number word slot) is (context_rises number word slot))

pub payload_found_well : (t : ℕ) (h : Held) → KeepsWell h (payload_found t h)
payload_found_well t h =
    well_given h (slice_get h.tasks t) (λ slot. given (called_of slot.caller) (λ called. Gives (code_of called.subtask.state) h)) (λ slot is. well_given h (called_of slot.caller) (λ called. Gives (code_of called.subtask.state) h) (λ called is. well_same h))

pub delivered_well : (t : ℕ) (h : Held) → KeepsWell h (delivered t h)
delivered_well t h =
    well_given h (slice_get h.tasks t) (λ slot. given (called_of slot.caller) (λ called. Gives (is_over called.subtask.told) h)) (λ slot is. well_given h (called_of slot.caller) (λ called. Gives (is_over called.subtask.told) h) (λ called is. well_same h))

pub lends_found_well : (t : ℕ) (h : Held) → KeepsWell h (lends_found t h)
lends_found_well t h =
    well_given h (slice_get h.tasks t) (λ slot. given (called_of slot.caller) (λ called. Gives called.subtask.lends h)) (λ slot is. well_given h (called_of slot.caller) (λ called. Gives called.subtask.lends h) (λ called is. well_same h))

pub result_found_well : (t : ℕ) (h : Held) → KeepsWell h (result_found t h)
result_found_well t h =
    well_given h (slice_get h.tasks t) (λ slot. given (called_of slot.caller) (λ called. Gives called.result h)) (λ slot is. well_given h (called_of slot.caller) (λ called. Gives called.result h) (λ called is. well_same h))

pub raised_well : (t : ℕ) (state : SubtaskState) (h : Held) → KeepsWell h (raised t state h)
raised_well t state h =
    well_given h (slice_get h.tasks t) (λ slot. if may_raise state slot.caller then Gives (tt {0}) (with_task t (raised_slot state slot) h) else Stuck)
    (λ slot is.
    well_if h (may_raise state slot.caller) (Gives (tt {0}) (with_task t (raised_slot state slot) h)) Stuck (well_task h t slot (raised_slot state slot) is (raised_slot_rises state slot)) tt)

pub result_kept_well : (t : ℕ) (words : List ℕ) (h : Held) → KeepsWell h (result_kept t words h)
result_kept_well t words h =
    well_given h (slice_get h.tasks t) (λ slot. if may_keep slot.caller then Gives (tt {0}) (with_task t (kept_slot words slot) h) else Stuck)
    (λ slot is. well_if h (may_keep slot.caller) (Gives (tt {0}) (with_task t (kept_slot words slot) h)) Stuck (well_task h t slot (kept_slot words slot) is (kept_slot_rises words slot)) tt)

-- A task ceases to wait for it directly.
pub unawaited_well : (t : ℕ) (h : Held) → KeepsWell h (awaited t false h)
unawaited_well t h =
    well_given h (slice_get h.tasks t) (λ slot. if may_keep slot.caller then Gives (tt {0}) (with_task t (awaited_slot false slot) h) else Stuck)
    (λ slot is. well_if h (may_keep slot.caller) (Gives (tt {0}) (with_task t (awaited_slot false slot) h)) Stuck (well_task h t slot (awaited_slot false slot) is (unawaited_rises slot)) tt)

told_by_well : (o : Option ℕ) (t : ℕ) (x y : TaskSlot) (h : Held) → slice_get h.tasks t ≡ Some x → SlotRises x y → KeepsWell h (told_by o t y h)
told_by_well None t x y h is rises = tt
told_by_well (Some payload) t x y h is rises = well_task h t x y is rises

pub state_told_well : (t : ℕ) (h : Held) → KeepsWell h (state_told t h)
state_told_well t h =
    well_given h (slice_get h.tasks t) (λ slot. told_by (payload_of slot.caller) t (told_slot slot) h)
    (λ slot is. told_by_well (payload_of slot.caller) t slot (told_slot slot) h is (told_slot_rises slot))

pub next_task_well : (h : Held) → KeepsWell h (next_task h)
next_task_well h =
    well_same h

pub closed_well : (t : ℕ) (h : Held) → KeepsWell h (closed t h)
closed_well t h =
    well_all h (record h { live = without t h.live; watched = unwatched t h.watched }) refl

pub parked_well : (t : ℕ) (kind : Kind) (h : Held) → KeepsWell h (parked t kind h)
parked_well t kind h =
    well_all h (record h { watched = parked_by (needs_entry kind) t h.watched }) refl

pub unparked_well : (t : ℕ) (h : Held) → KeepsWell h (unparked t h)
unparked_well t h =
    well_all h (record h { watched = watching t h.watched }) refl

pub call_made_well : (t : ℕ) (h : Held) → KeepsWell h (call_made t h)
call_made_well t h =
    well_all h (record h { calls = h.calls ++ t ∷ [] }) refl
