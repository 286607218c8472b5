-- What is told of tasks, and what happens to them inside, leave the marks of gates and of sets as they are.
use Rattle.std.proofs.Common.{◌≡◌, refl, Some}
use Rattle.std.specs.Prelude.{ℕ, ◌+◌, ◌^◌, Bool, if◌then◌else◌, List, [], ◌∷◌, ◌++◌, length, Option, Some, None, Result, Ok, Err}
use Rattle.std.specs.List.{slice_get}
use Rattle.entry_gate.specs.declared.kind.Kind.{Kind}
use Rattle.entry_gate.specs.Kinds.{needs_entry}
use Rattle.tasks.specs.declared.event.TaskEvent.{TaskEvent}
use Rattle.tasks.specs.declared.subtask_state.SubtaskState.{SubtaskState}
use Rattle.tasks.specs.Tasks.{is_asked, is_unasked, may_cancel, state_of}
use Rattle.tasks.specs.Subtasks.{code_of, is_over}
use Rattle.task_table.specs.declared.errand.Errand.{Errand}
use Rattle.task_table.specs.declared.refusal.EventError.{EventError}
use Rattle.task_table.specs.declared.refusal.EventError.TheVariants as event_error
use Rattle.task_table.specs.declared.slot.TaskSlot.{TaskSlot}
use Rattle.task_table.specs.Callers.{called_of, payload_of, may_raise, may_keep}
use Rattle.task_table.specs.Slots.{event_answer, advanced_slot, is_to_be_told, word_at, with_word, at_errand, at_call, raised_slot, awaited_slot, told_slot, kept_slot}
use Rattle.task_table.specs.Tasks.{with_number, without, unwatched, watching, parked_by}
use Rattle.world_parts.specs.Held.{Held, Gives, Stuck, after, given}
use Rattle.world_parts.specs.Gates.{entry_is_free}
use Rattle.world_parts.specs.Slots.{asked, awaited, call_made, callee_of, cancellable, closed, context_of, context_set, delivered, errand_of, errand_set, happened, happens, instance_of, kind_of, lends_found, next_task, parked, payload_found, phase_of, raised, resolution_of, resolved, result_found, result_kept, state_told, task_made, to_be_told, told_by, unasked, unparked, with_task, word_in, word_of, words_of, words_set}
use Rattle.standing.specs.MarksKept.{StayBy}
use Rattle.tasks.specs.declared.phase.Phase.TheVariants as phase
use Rattle.standing.proofs.marks.Inside.{IsQuiet, quiet_seen, same_seen}
use Rattle.standing.proofs.marks.Tasks.{SeenSame, task_stays, tasks_stay_more}
use Rattle.standing.proofs.marks.Stays.{stays_after, stays_given, stays_if, stays_same, stays_all}
use Rattle.standing.proofs.marks.Gates.{entry_is_free_stays}

pub instance_of_stays : (t : ℕ) (h : Held) → StayBy h (instance_of t h)
instance_of_stays t h =
    stays_given h (slice_get h.tasks t) (λ slot. Gives slot.instance h) (λ slot is. stays_same h)

pub kind_of_stays : (t : ℕ) (h : Held) → StayBy h (kind_of t h)
kind_of_stays t h =
    stays_given h (slice_get h.tasks t) (λ slot. Gives slot.task.kind h) (λ slot is. stays_same h)

pub callee_of_stays : (t : ℕ) (h : Held) → StayBy h (callee_of t h)
callee_of_stays t h =
    stays_given h (slice_get h.tasks t) (λ slot. Gives slot.callee h) (λ slot is. stays_same h)

pub phase_of_stays : (t : ℕ) (h : Held) → StayBy h (phase_of t h)
phase_of_stays t h =
    stays_given h (slice_get h.tasks t) (λ slot. Gives slot.task.phase h) (λ slot is. stays_same h)

pub resolution_of_stays : (t : ℕ) (h : Held) → StayBy h (resolution_of t h)
resolution_of_stays t h =
    stays_given h (slice_get h.tasks t) (λ slot. Gives slot.task.resolution h) (λ slot is. stays_same h)

pub errand_of_stays : (t : ℕ) (h : Held) → StayBy h (errand_of t h)
errand_of_stays t h =
    stays_given h (slice_get h.tasks t) (λ slot. Gives slot.errand h) (λ slot is. stays_same h)

pub context_of_stays : (t : ℕ) (number : ℕ) (h : Held) → StayBy h (context_of t number h)
context_of_stays t number h =
    stays_given h (slice_get h.tasks t) (λ slot. Gives (word_at number slot.context) h) (λ slot is. stays_same h)

pub asked_stays : (t : ℕ) (h : Held) → StayBy h (asked t h)
asked_stays t h =
    stays_given h (slice_get h.tasks t) (λ slot. Gives (is_asked slot.task.cancellation) h) (λ slot is. stays_same h)

pub unasked_stays : (t : ℕ) (h : Held) → StayBy h (unasked t h)
unasked_stays t h =
    stays_given h (slice_get h.tasks t) (λ slot. Gives (is_unasked slot.task.cancellation) h) (λ slot is. stays_same h)

pub cancellable_stays : (t : ℕ) (h : Held) → StayBy h (cancellable t h)
cancellable_stays t h =
    stays_given h (slice_get h.tasks t) (λ slot. Gives (may_cancel slot.task) h) (λ slot is. stays_same h)

pub resolved_stays : (t : ℕ) (h : Held) → StayBy h (resolved t h)
resolved_stays t h =
    stays_given h (slice_get h.tasks t) (λ slot. Gives (is_over (state_of slot.task)) h) (λ slot is. stays_same h)

pub to_be_told_stays : (t : ℕ) (h : Held) → StayBy h (to_be_told t h)
to_be_told_stays t h =
    stays_after h (instance_of t h) (λ at k. after (entry_is_free at k) (λ free l. given (slice_get l.tasks t) (λ slot. Gives (is_to_be_told free slot.task) l))) (instance_of_stays t h) (λ at k. stays_after k (entry_is_free at k) (λ free l. given (slice_get l.tasks t) (λ slot. Gives (is_to_be_told free slot.task) l)) (entry_is_free_stays at k) (λ free l. stays_given l (slice_get l.tasks t) (λ slot. Gives (is_to_be_told free slot.task) l) (λ slot is. stays_same l)))

pub word_of_stays : (t : ℕ) (number : ℕ) (h : Held) → StayBy h (word_of t number h)
word_of_stays t number h =
    stays_given h (slice_get h.tasks t) (λ slot. given (word_in slot.at_words number) (λ word. Gives word h)) (λ slot is. stays_given h (word_in slot.at_words number) (λ word. Gives word h) (λ word is. stays_same h))

pub words_of_stays : (t : ℕ) (h : Held) → StayBy h (words_of t h)
words_of_stays t h =
    stays_given h (slice_get h.tasks t) (λ slot. Gives slot.at_words h) (λ slot is. stays_same h)

-- A task is another one.
happened_stays : (r : Result (Unit {0}) EventError) (t : ℕ) (x y : TaskSlot) (h : Held) → slice_get h.tasks t ≡ Some x → SeenSame x y → StayBy h (happened r t y h)
happened_stays (Ok done) t x y h is same = task_stays h t x y is same
happened_stays (Err event_error.NotNow) t x y h is same = tt
happened_stays (Err (event_error.Trap why)) t x y h is same = tt

pub happens_stays : (t : ℕ) (e : TaskEvent) (h : Held) → IsQuiet e → StayBy h (happens t e h)
happens_stays t e h q =
    stays_given h (slice_get h.tasks t) (λ slot. happened (event_answer e slot.task) t (advanced_slot e slot) h)
    (λ slot is. happened_stays (event_answer e slot.task) t slot (advanced_slot e slot) h is (quiet_seen e q slot))

pub errand_set_stays : (t : ℕ) (errand : Errand) (h : Held) → StayBy h (errand_set t errand h)
errand_set_stays t errand h =
    stays_given h (slice_get h.tasks t) (λ slot. Gives (tt {0}) (with_task t (at_errand errand slot) h)) (λ slot is. task_stays h t slot (at_errand errand slot) is (same_seen slot (at_errand errand slot) refl refl refl refl))

pub words_set_stays : (t : ℕ) (words : List ℕ) (h : Held) → StayBy h (words_set t words h)
words_set_stays t words h =
    stays_given h (slice_get h.tasks t) (λ slot. Gives (tt {0}) (with_task t (at_call words slot) h)) (λ slot is. task_stays h t slot (at_call words slot) is (same_seen slot (at_call words slot) refl refl refl refl))

pub context_set_stays : (t : ℕ) (number : ℕ) (word : ℕ) (h : Held) → StayBy h (context_set t number word h)
context_set_stays t number word h =
    stays_given h (slice_get h.tasks t) (λ slot. Gives (tt {0}) (with_task t (with_word number word slot) h)) (λ slot is. task_stays h t slot (with_word number word slot) is (same_seen slot (with_word number word slot) refl refl refl refl))

pub payload_found_stays : (t : ℕ) (h : Held) → StayBy h (payload_found t h)
payload_found_stays t h =
    stays_given h (slice_get h.tasks t) (λ slot. given (called_of slot.caller) (λ called. Gives (code_of called.subtask.state) h)) (λ slot is. stays_given h (called_of slot.caller) (λ called. Gives (code_of called.subtask.state) h) (λ called is. stays_same h))

pub delivered_stays : (t : ℕ) (h : Held) → StayBy h (delivered t h)
delivered_stays t h =
    stays_given h (slice_get h.tasks t) (λ slot. given (called_of slot.caller) (λ called. Gives (is_over called.subtask.told) h)) (λ slot is. stays_given h (called_of slot.caller) (λ called. Gives (is_over called.subtask.told) h) (λ called is. stays_same h))

pub lends_found_stays : (t : ℕ) (h : Held) → StayBy h (lends_found t h)
lends_found_stays t h =
    stays_given h (slice_get h.tasks t) (λ slot. given (called_of slot.caller) (λ called. Gives called.subtask.lends h)) (λ slot is. stays_given h (called_of slot.caller) (λ called. Gives called.subtask.lends h) (λ called is. stays_same h))

pub result_found_stays : (t : ℕ) (h : Held) → StayBy h (result_found t h)
result_found_stays t h =
    stays_given h (slice_get h.tasks t) (λ slot. given (called_of slot.caller) (λ called. Gives called.result h)) (λ slot is. stays_given h (called_of slot.caller) (λ called. Gives called.result h) (λ called is. stays_same h))

pub raised_stays : (t : ℕ) (state : SubtaskState) (h : Held) → StayBy h (raised t state h)
raised_stays t state h =
    stays_given h (slice_get h.tasks t) (λ slot. if may_raise state slot.caller then Gives (tt {0}) (with_task t (raised_slot state slot) h) else Stuck)
    (λ slot is.
    stays_if h (may_raise state slot.caller) (Gives (tt {0}) (with_task t (raised_slot state slot) h)) Stuck
    (task_stays h t slot (raised_slot state slot) is (same_seen slot (raised_slot state slot) refl refl refl refl)) tt)

pub result_kept_stays : (t : ℕ) (words : List ℕ) (h : Held) → StayBy h (result_kept t words h)
result_kept_stays t words h =
    stays_given h (slice_get h.tasks t) (λ slot. if may_keep slot.caller then Gives (tt {0}) (with_task t (kept_slot words slot) h) else Stuck)
    (λ slot is.
    stays_if h (may_keep slot.caller) (Gives (tt {0}) (with_task t (kept_slot words slot) h)) Stuck
    (task_stays h t slot (kept_slot words slot) is (same_seen slot (kept_slot words slot) refl refl refl refl)) tt)

pub awaited_stays : (t : ℕ) (is_awaited : Bool) (h : Held) → StayBy h (awaited t is_awaited h)
awaited_stays t is_awaited h =
    stays_given h (slice_get h.tasks t) (λ slot. if may_keep slot.caller then Gives (tt {0}) (with_task t (awaited_slot is_awaited slot) h) else Stuck)
    (λ slot is.
    stays_if h (may_keep slot.caller) (Gives (tt {0}) (with_task t (awaited_slot is_awaited slot) h)) Stuck
    (task_stays h t slot (awaited_slot is_awaited slot) is (same_seen slot (awaited_slot is_awaited slot) refl refl refl refl)) tt)

told_by_stays : (o : Option ℕ) (t : ℕ) (x y : TaskSlot) (h : Held) → slice_get h.tasks t ≡ Some x → SeenSame x y → StayBy h (told_by o t y h)
told_by_stays None t x y h is same = tt
told_by_stays (Some payload) t x y h is same = task_stays h t x y is same

pub state_told_stays : (t : ℕ) (h : Held) → StayBy h (state_told t h)
state_told_stays t h =
    stays_given h (slice_get h.tasks t) (λ slot. told_by (payload_of slot.caller) t (told_slot slot) h)
    (λ slot is. told_by_stays (payload_of slot.caller) t slot (told_slot slot) h is (same_seen slot (told_slot slot) refl refl refl refl))

pub next_task_stays : (h : Held) → StayBy h (next_task h)
next_task_stays h =
    stays_same h

pub task_made_stays : (slot : TaskSlot) (h : Held) → slot.task.phase ≡ phase.New → StayBy h (task_made slot h)
task_made_stays slot h begins =
    tasks_stay_more h (record h { tasks = h.tasks ++ slot ∷ []; live = with_number (length h.tasks) h.live; watched = watching (length h.tasks) h.watched }) slot refl refl begins

pub closed_stays : (t : ℕ) (h : Held) → StayBy h (closed t h)
closed_stays t h =
    stays_all h (record h { live = without t h.live; watched = unwatched t h.watched }) refl refl

pub parked_stays : (t : ℕ) (kind : Kind) (h : Held) → StayBy h (parked t kind h)
parked_stays t kind h =
    stays_all h (record h { watched = parked_by (needs_entry kind) t h.watched }) refl refl

pub unparked_stays : (t : ℕ) (h : Held) → StayBy h (unparked t h)
unparked_stays t h =
    stays_all h (record h { watched = watching t h.watched }) refl refl

pub call_made_stays : (t : ℕ) (h : Held) → StayBy h (call_made t h)
call_made_stays t h =
    stays_all h (record h { calls = h.calls ++ t ∷ [] }) refl refl
