-- What is told of tasks, and what happens to them inside, leave marks of handles and subtasks as they are.
use Rattle.std.proofs.Common.{◌≡◌, true, false, refl}
use Rattle.std.specs.Prelude.{ℕ, Bool, if◌then◌else◌, List, [], ◌∷◌, ◌++◌, length, Option, Some, None}
use Rattle.std.specs.List.{slice_get}
use Rattle.entry_gate.specs.declared.kind.Kind.{Kind}
use Rattle.entry_gate.specs.Kinds.{needs_entry}
use Rattle.tasks.specs.declared.phase.Cancellation.{Cancellation}
use Rattle.tasks.specs.declared.phase.Cancellation.TheVariants as cancellation
use Rattle.tasks.specs.declared.event.BlockedAt.{BlockedAt}
use Rattle.tasks.specs.declared.event.TaskEvent.TheVariants as event
use Rattle.tasks.specs.declared.phase.Phase.{Phase}
use Rattle.tasks.specs.declared.phase.Resolution.{Resolution}
use Rattle.tasks.specs.declared.phase.Resolution.TheVariants as resolution
use Rattle.tasks.specs.Tasks as tasks
use Rattle.tasks.specs.Tasks.{is_asked, is_unasked, may_cancel, state_of, resolved_state, fault}
use Rattle.tasks.specs.Subtasks.{code_of, is_over}
use Rattle.task_table.specs.declared.errand.Errand.{Errand}
use Rattle.task_table.specs.declared.slot.TaskSlot.{TaskSlot}
use Rattle.task_table.specs.Callers.{called_of, may_keep}
use Rattle.task_table.specs.Slots as slots
use Rattle.task_table.specs.Slots.{event_answer, advanced_slot, is_to_be_told, word_at, with_word, at_errand, at_call, kept_slot}
use Rattle.task_table.specs.Tasks.{with_number, without, unwatched, watching, parked_by}
use Rattle.world_parts.specs.Held.{Held, Gives, Stuck, after, given}
use Rattle.world_parts.specs.Gates.{entry_is_free}
use Rattle.world_parts.specs.Slots.{asked, call_made, callee_of, cancellable, closed, context_of, context_set, delivered, errand_of, errand_set, happened, happens, instance_of, kind_of, lends_found, next_task, parked, payload_found, phase_of, resolution_of, resolved, result_found, result_kept, task_made, to_be_told, unasked, unparked, with_task, word_in, word_of, words_of, words_set}
use Rattle.run_laws.proofs.keeping.Others.{KeptBy, never_traps, traps_there}
use Rattle.standing.specs.Marks.{StateMarked}
use Rattle.standing.proofs.States.{states_stay, keeping_stays}
use Rattle.run_laws.specs.keeping.Kept.{NumbersThere, AskedAreOpen}
use Rattle.run_laws.proofs.keeping.Alike.{IsIndirect, same_task, kept_alike, happened_keeps, blocked_there}
use Rattle.run_laws.proofs.keeping.Changes.{task_keeps}
use Rattle.run_laws.proofs.keeping.Made.{Begins, tasks_keep_more}
use Rattle.run_laws.proofs.keeping.Others.{keeps_after, keeps_given, keeps_if, keeps_same, keeps_all}
use Rattle.run_laws.proofs.keeping.parts.Gates.{entry_is_free_keeps}

pub instance_of_keeps : (t : ℕ) (h : Held) → KeptBy h (instance_of t h)
instance_of_keeps t h =
    keeps_given h (slice_get h.tasks t) (λ slot. Gives slot.instance h) (λ slot is. keeps_same h)

pub kind_of_keeps : (t : ℕ) (h : Held) → KeptBy h (kind_of t h)
kind_of_keeps t h =
    keeps_given h (slice_get h.tasks t) (λ slot. Gives slot.task.kind h) (λ slot is. keeps_same h)

pub callee_of_keeps : (t : ℕ) (h : Held) → KeptBy h (callee_of t h)
callee_of_keeps t h =
    keeps_given h (slice_get h.tasks t) (λ slot. Gives slot.callee h) (λ slot is. keeps_same h)

pub phase_of_keeps : (t : ℕ) (h : Held) → KeptBy h (phase_of t h)
phase_of_keeps t h =
    keeps_given h (slice_get h.tasks t) (λ slot. Gives slot.task.phase h) (λ slot is. keeps_same h)

pub resolution_of_keeps : (t : ℕ) (h : Held) → KeptBy h (resolution_of t h)
resolution_of_keeps t h =
    keeps_given h (slice_get h.tasks t) (λ slot. Gives slot.task.resolution h) (λ slot is. keeps_same h)

pub errand_of_keeps : (t : ℕ) (h : Held) → KeptBy h (errand_of t h)
errand_of_keeps t h =
    keeps_given h (slice_get h.tasks t) (λ slot. Gives slot.errand h) (λ slot is. keeps_same h)

pub context_of_keeps : (t : ℕ) (number : ℕ) (h : Held) → KeptBy h (context_of t number h)
context_of_keeps t number h =
    keeps_given h (slice_get h.tasks t) (λ slot. Gives (word_at number slot.context) h) (λ slot is. keeps_same h)

pub asked_keeps : (t : ℕ) (h : Held) → KeptBy h (asked t h)
asked_keeps t h =
    keeps_given h (slice_get h.tasks t) (λ slot. Gives (is_asked slot.task.cancellation) h) (λ slot is. keeps_same h)

pub unasked_keeps : (t : ℕ) (h : Held) → KeptBy h (unasked t h)
unasked_keeps t h =
    keeps_given h (slice_get h.tasks t) (λ slot. Gives (is_unasked slot.task.cancellation) h) (λ slot is. keeps_same h)

pub cancellable_keeps : (t : ℕ) (h : Held) → KeptBy h (cancellable t h)
cancellable_keeps t h =
    keeps_given h (slice_get h.tasks t) (λ slot. Gives (may_cancel slot.task) h) (λ slot is. keeps_same h)

pub resolved_keeps : (t : ℕ) (h : Held) → KeptBy h (resolved t h)
resolved_keeps t h =
    keeps_given h (slice_get h.tasks t) (λ slot. Gives (is_over (state_of slot.task)) h) (λ slot is. keeps_same h)

pub to_be_told_keeps : (t : ℕ) (h : Held) → KeptBy h (to_be_told t h)
to_be_told_keeps t h =
    keeps_after h (instance_of t h) (λ at k. after (entry_is_free at k) (λ free l. given (slice_get l.tasks t) (λ slot. Gives (is_to_be_told free slot.task) l))) (instance_of_keeps t h) (λ at k. keeps_after k (entry_is_free at k) (λ free l. given (slice_get l.tasks t) (λ slot. Gives (is_to_be_told free slot.task) l)) (entry_is_free_keeps at k) (λ free l. keeps_given l (slice_get l.tasks t) (λ slot. Gives (is_to_be_told free slot.task) l) (λ slot is. keeps_same l)))

pub word_of_keeps : (t : ℕ) (number : ℕ) (h : Held) → KeptBy h (word_of t number h)
word_of_keeps t number h =
    keeps_given h (slice_get h.tasks t) (λ slot. given (word_in slot.at_words number) (λ word. Gives word h)) (λ slot is. keeps_given h (word_in slot.at_words number) (λ word. Gives word h) (λ word is. keeps_same h))

pub words_of_keeps : (t : ℕ) (h : Held) → KeptBy h (words_of t h)
words_of_keeps t h =
    keeps_given h (slice_get h.tasks t) (λ slot. Gives slot.at_words h) (λ slot is. keeps_same h)

-- A task that acts blocks, but for a copy or a cancelled subtask.
pub blocks_keeps : (t : ℕ) (why : BlockedAt) (flag : Bool) (h : Held) → IsIndirect why → KeptBy h (happens t (event.Block why flag) h)
blocks_keeps t why flag h q =
    keeps_given h (slice_get h.tasks t) (λ slot. happened (event_answer (event.Block why flag) slot.task) t (advanced_slot (event.Block why flag) slot) h)
    (λ slot is. happened_keeps h h t (event.Block why flag) slot (never_traps h h t slot) (λ may none. blocked_there h t why flag slot is q may))

pub return_asked_happens : (t : ℕ) (h : Held) → KeptBy h (happens t event.AskReturn h)
return_asked_happens t h =
    keeps_given h (slice_get h.tasks t) (λ slot. happened (event_answer event.AskReturn slot.task) t (advanced_slot event.AskReturn slot) h)
    (λ slot is.
    happened_keeps h h t event.AskReturn slot (traps_there h t slot (fault event.AskReturn slot.task) is) (λ may none. task_keeps h t slot (slots.with_task slot.task slot) is (same_task slot (slots.with_task slot.task slot) refl refl refl refl refl) (λ m. m)))

-- It hears of its cancellation, which was asked, so that it was not cancelled before.
told_state : (c d : Cancellation) (r : Option Resolution) (p : Phase) → is_asked c ≡ true → (r ≡ Some resolution.Cancelled → is_asked c ≡ false) → resolved_state d r p ≡ resolved_state c r p
told_state c d None p asked still = refl
told_state c d (Some resolution.Returned) p asked still = refl
told_state c d (Some resolution.Cancelled) p asked still = absurd (let none : is_asked c ≡ false = still refl in cc)

pub told_cancel_keeps : (t : ℕ) (h : Held) → AskedAreOpen h → KeptBy h (happens t event.ToldCancel h)
told_cancel_keeps t h still =
    keeps_given h (slice_get h.tasks t) (λ slot. happened (event_answer event.ToldCancel slot.task) t (advanced_slot event.ToldCancel slot) h)
    (λ slot is.
    happened_keeps h h t event.ToldCancel slot (never_traps h h t slot)
    (λ may none.
    let y : TaskSlot = slots.with_task (tasks.after event.ToldCancel slot.task) slot in
    task_keeps h t slot y is (same_task slot y refl refl refl refl refl)
    (states_stay t slot (tasks.after event.ToldCancel slot.task)
    (told_state slot.task.cancellation cancellation.Delivered slot.task.resolution slot.task.phase may (still t slot is)))))

-- What it is at, and words, are others.
pub errand_set_keeps : (t : ℕ) (errand : Errand) (h : Held) → KeptBy h (errand_set t errand h)
errand_set_keeps t errand h =
    keeps_given h (slice_get h.tasks t) (λ slot. Gives (tt {0}) (with_task t (at_errand errand slot) h))
    (λ slot is. task_keeps h t slot (at_errand errand slot) is (same_task slot (at_errand errand slot) refl refl refl refl refl) (λ m. m))

pub words_set_keeps : (t : ℕ) (words : List ℕ) (h : Held) → KeptBy h (words_set t words h)
words_set_keeps t words h =
    keeps_given h (slice_get h.tasks t) (λ slot. Gives (tt {0}) (with_task t (at_call words slot) h))
    (λ slot is. task_keeps h t slot (at_call words slot) is (same_task slot (at_call words slot) refl refl refl refl refl) (λ m. m))

pub context_set_keeps : (t : ℕ) (number : ℕ) (word : ℕ) (h : Held) → KeptBy h (context_set t number word h)
context_set_keeps t number word h =
    keeps_given h (slice_get h.tasks t) (λ slot. Gives (tt {0}) (with_task t (with_word number word slot) h))
    (λ slot is. task_keeps h t slot (with_word number word slot) is (same_task slot (with_word number word slot) refl refl refl refl refl) (λ m. m))

pub payload_found_keeps : (t : ℕ) (h : Held) → KeptBy h (payload_found t h)
payload_found_keeps t h =
    keeps_given h (slice_get h.tasks t) (λ slot. given (called_of slot.caller) (λ called. Gives (code_of called.subtask.state) h)) (λ slot is. keeps_given h (called_of slot.caller) (λ called. Gives (code_of called.subtask.state) h) (λ called is. keeps_same h))

pub delivered_keeps : (t : ℕ) (h : Held) → KeptBy h (delivered t h)
delivered_keeps t h =
    keeps_given h (slice_get h.tasks t) (λ slot. given (called_of slot.caller) (λ called. Gives (is_over called.subtask.told) h)) (λ slot is. keeps_given h (called_of slot.caller) (λ called. Gives (is_over called.subtask.told) h) (λ called is. keeps_same h))

pub lends_found_keeps : (t : ℕ) (h : Held) → KeptBy h (lends_found t h)
lends_found_keeps t h =
    keeps_given h (slice_get h.tasks t) (λ slot. given (called_of slot.caller) (λ called. Gives called.subtask.lends h)) (λ slot is. keeps_given h (called_of slot.caller) (λ called. Gives called.subtask.lends h) (λ called is. keeps_same h))

pub result_found_keeps : (t : ℕ) (h : Held) → KeptBy h (result_found t h)
result_found_keeps t h =
    keeps_given h (slice_get h.tasks t) (λ slot. given (called_of slot.caller) (λ called. Gives called.result h)) (λ slot is. keeps_given h (called_of slot.caller) (λ called. Gives called.result h) (λ called is. keeps_same h))

pub result_kept_keeps : (t : ℕ) (words : List ℕ) (h : Held) → KeptBy h (result_kept t words h)
result_kept_keeps t words h =
    keeps_given h (slice_get h.tasks t) (λ slot. if may_keep slot.caller then Gives (tt {0}) (with_task t (kept_slot words slot) h) else Stuck)
    (λ slot is.
    keeps_if h (may_keep slot.caller) (Gives (tt {0}) (with_task t (kept_slot words slot) h)) Stuck
    (task_keeps h t slot (kept_slot words slot) is (kept_alike words slot) (keeping_stays t slot words)) tt)

pub next_task_keeps : (h : Held) → KeptBy h (next_task h)
next_task_keeps h =
    keeps_same h

pub task_made_keeps : (slot : TaskSlot) (h : Held) → NumbersThere h → Begins slot → StateMarked (length h.tasks) slot → KeptBy h (task_made slot h)
task_made_keeps slot h numbers new state =
    tasks_keep_more h (record h { tasks = h.tasks ++ slot ∷ []; live = with_number (length h.tasks) h.live; watched = watching (length h.tasks) h.watched }) slot refl refl numbers new state

pub closed_keeps : (t : ℕ) (h : Held) → KeptBy h (closed t h)
closed_keeps t h =
    keeps_all h (record h { live = without t h.live; watched = unwatched t h.watched }) refl refl

pub parked_keeps : (t : ℕ) (kind : Kind) (h : Held) → KeptBy h (parked t kind h)
parked_keeps t kind h =
    keeps_all h (record h { watched = parked_by (needs_entry kind) t h.watched }) refl refl

pub unparked_keeps : (t : ℕ) (h : Held) → KeptBy h (unparked t h)
unparked_keeps t h =
    keeps_all h (record h { watched = watching t h.watched }) refl refl

pub call_made_keeps : (t : ℕ) (h : Held) → KeptBy h (call_made t h)
call_made_keeps t h =
    keeps_all h (record h { calls = h.calls ++ t ∷ [] }) refl refl
