-- What is told of tasks, and what happens to them: lists of tasks stay as they follow from the tasks.
use Rattle.std.proofs.Common.{◌≡◌, true, false, not, refl, sym, ◌∙◌}
use Rattle.std.specs.Prelude.{ℕ, Bool, if◌then◌else◌, List, Option, Some, None, Err}
use Rattle.std.specs.List.{slice_get}
use Rattle.tasks.specs.declared.event.TaskEvent.{TaskEvent}
use Rattle.tasks.specs.declared.event.TaskEvent.TheVariants as event
use Rattle.tasks.specs.declared.event.TaskTrap.{TaskTrap}
use Rattle.tasks.specs.declared.phase.Phase.{Phase}
use Rattle.tasks.specs.declared.phase.Phase.TheVariants as phase
use Rattle.tasks.specs.declared.subtask_state.SubtaskState.{SubtaskState}
use Rattle.tasks.specs.Tasks as tasks
use Rattle.tasks.specs.Tasks.{is_asked, is_unasked, may_cancel, state_of, may_happen, fault, is_new, is_acting, is_entry, waits_to_enter, waits_inside}
use Rattle.tasks.specs.Views.{TaskView}
use Rattle.tasks.specs.Subtasks.{code_of, is_over}
use Rattle.task_table.specs.declared.caller.Called.{Called}
use Rattle.task_table.specs.declared.errand.Errand.{Errand}
use Rattle.task_table.specs.declared.refusal.EventError.TheVariants as event_error
use Rattle.task_table.specs.declared.slot.TaskSlot.{TaskSlot}
use Rattle.task_table.specs.Callers as callers
use Rattle.task_table.specs.Callers.{called_of, payload_of, may_raise, may_keep}
use Rattle.task_table.specs.Slots as slots
use Rattle.task_table.specs.Slots.{event_answer, advanced_slot, is_to_be_told, word_at, with_word, at_errand, at_call, raised_slot, awaited_slot, told_slot, kept_slot}
use Rattle.world_parts.specs.Held.{Held, Done, Gives, Stuck, after, given}
use Rattle.world_parts.specs.Gates.{entry_is_free}
use Rattle.world_parts.specs.Slots.{asked, awaited, callee_of, cancellable, context_of, context_set, delivered, errand_of, errand_set, happened, happens, instance_of, kind_of, lends_found, next_task, payload_found, phase_of, raised, resolution_of, resolved, result_found, result_kept, state_told, to_be_told, told_by, unasked, with_task, word_in, word_of, words_of, words_set}
use Rattle.run_laws.proofs.lists.Gates.{entry_is_free_lists}
use Rattle.run_laws.proofs.lists.Same.{Same, ListsBy, SlotSame, call_kept, lists_after, lists_given, lists_look, lists_if, lists_same, lists_task}

pub instance_of_lists : (t : ℕ) (h : Held) → ListsBy h (instance_of t h)
instance_of_lists t h =
    lists_given h (slice_get h.tasks t) (λ slot. Gives slot.instance h) (λ slot is. lists_same h)

pub kind_of_lists : (t : ℕ) (h : Held) → ListsBy h (kind_of t h)
kind_of_lists t h =
    lists_given h (slice_get h.tasks t) (λ slot. Gives slot.task.kind h) (λ slot is. lists_same h)

pub callee_of_lists : (t : ℕ) (h : Held) → ListsBy h (callee_of t h)
callee_of_lists t h =
    lists_given h (slice_get h.tasks t) (λ slot. Gives slot.callee h) (λ slot is. lists_same h)

pub phase_of_lists : (t : ℕ) (h : Held) → ListsBy h (phase_of t h)
phase_of_lists t h =
    lists_given h (slice_get h.tasks t) (λ slot. Gives slot.task.phase h) (λ slot is. lists_same h)

pub resolution_of_lists : (t : ℕ) (h : Held) → ListsBy h (resolution_of t h)
resolution_of_lists t h =
    lists_given h (slice_get h.tasks t) (λ slot. Gives slot.task.resolution h) (λ slot is. lists_same h)

pub errand_of_lists : (t : ℕ) (h : Held) → ListsBy h (errand_of t h)
errand_of_lists t h =
    lists_given h (slice_get h.tasks t) (λ slot. Gives slot.errand h) (λ slot is. lists_same h)

pub context_of_lists : (t : ℕ) (number : ℕ) (h : Held) → ListsBy h (context_of t number h)
context_of_lists t number h =
    lists_given h (slice_get h.tasks t) (λ slot. Gives (word_at number slot.context) h) (λ slot is. lists_same h)

pub asked_lists : (t : ℕ) (h : Held) → ListsBy h (asked t h)
asked_lists t h =
    lists_given h (slice_get h.tasks t) (λ slot. Gives (is_asked slot.task.cancellation) h) (λ slot is. lists_same h)

pub unasked_lists : (t : ℕ) (h : Held) → ListsBy h (unasked t h)
unasked_lists t h =
    lists_given h (slice_get h.tasks t) (λ slot. Gives (is_unasked slot.task.cancellation) h) (λ slot is. lists_same h)

pub cancellable_lists : (t : ℕ) (h : Held) → ListsBy h (cancellable t h)
cancellable_lists t h =
    lists_given h (slice_get h.tasks t) (λ slot. Gives (may_cancel slot.task) h) (λ slot is. lists_same h)

pub resolved_lists : (t : ℕ) (h : Held) → ListsBy h (resolved t h)
resolved_lists t h =
    lists_given h (slice_get h.tasks t) (λ slot. Gives (is_over (state_of slot.task)) h) (λ slot is. lists_same h)

pub to_be_told_lists : (t : ℕ) (h : Held) → ListsBy h (to_be_told t h)
to_be_told_lists t h =
    lists_after h (instance_of t h) (λ at k. after (entry_is_free at k) (λ free l. given (slice_get l.tasks t) (λ slot. Gives (is_to_be_told free slot.task) l))) (instance_of_lists t h) (λ at k. lists_after k (entry_is_free at k) (λ free l. given (slice_get l.tasks t) (λ slot. Gives (is_to_be_told free slot.task) l)) (entry_is_free_lists at k) (λ free l. lists_given l (slice_get l.tasks t) (λ slot. Gives (is_to_be_told free slot.task) l) (λ slot is. lists_same l)))

pub word_of_lists : (t : ℕ) (number : ℕ) (h : Held) → ListsBy h (word_of t number h)
word_of_lists t number h =
    lists_given h (slice_get h.tasks t) (λ slot. given (word_in slot.at_words number) (λ word. Gives word h)) (λ slot is. lists_given h (word_in slot.at_words number) (λ word. Gives word h) (λ word is. lists_same h))

pub words_of_lists : (t : ℕ) (h : Held) → ListsBy h (words_of t h)
words_of_lists t h =
    lists_given h (slice_get h.tasks t) (λ slot. Gives slot.at_words h) (λ slot is. lists_same h)

-- Something happens to a task that it does not enter or leave by, nor begin to wait to enter.
abbrev pub IsInside : TaskEvent → Type 0
IsInside event.Enter = ⊥
IsInside (event.Block why flag) = is_entry why ≡ false
IsInside event.Go = Unit {0}
IsInside event.AskReturn = Unit {0}
IsInside event.Return = Unit {0}
IsInside event.Cancel = Unit {0}
IsInside event.Borrow = Unit {0}
IsInside event.Unborrow = Unit {0}
IsInside event.ToldCancel = Unit {0}
IsInside event.Exit = ⊥

not_is : (b : Bool) → not b ≡ true → b ≡ false
not_is true e = absurd (cc)
not_is false e = refl

pub inside_open : (p : Phase) → waits_inside p ≡ true → slots.has_exited p ≡ false
inside_open phase.New e = absurd (cc)
inside_open phase.Acting e = absurd (cc)
inside_open (phase.Blocked why flag) e = refl
inside_open phase.Exited e = absurd (cc)

inside_entered : (p : Phase) → waits_inside p ≡ true → waits_to_enter p ≡ false
inside_entered phase.New e = absurd (cc)
inside_entered phase.Acting e = absurd (cc)
inside_entered (phase.Blocked why flag) e = not_is (is_entry why) e
inside_entered phase.Exited e = absurd (cc)

pub acting_open : (p : Phase) → is_acting p ≡ true → slots.has_exited p ≡ false
acting_open phase.New e = absurd (cc)
acting_open phase.Acting e = refl
acting_open (phase.Blocked why flag) e = absurd (cc)
acting_open phase.Exited e = absurd (cc)

pub acting_entered : (p : Phase) → is_acting p ≡ true → waits_to_enter p ≡ false
acting_entered phase.New e = absurd (cc)
acting_entered phase.Acting e = refl
acting_entered (phase.Blocked why flag) e = absurd (cc)
acting_entered phase.Exited e = absurd (cc)

blocks_acting : (b : Bool) (x : TaskSlot) → b ≡ false → (if b then is_new x.task.phase else is_acting x.task.phase) ≡ true → is_acting x.task.phase ≡ true
blocks_acting true x none e = absurd (cc)
blocks_acting false x none e = e

event_same : (e : TaskEvent) (x : TaskSlot) → IsInside e → may_happen e x.task ≡ true → SlotSame x (slots.with_task (tasks.after e x.task) x)
event_same event.Enter x inside may = absurd inside
event_same (event.Block why flag) x inside may =
    let acts : is_acting x.task.phase ≡ true = blocks_acting (is_entry why) x inside may in
    record {
      exited = sym (acting_open x.task.phase acts);
      waits = inside ∙ sym (acting_entered x.task.phase acts);
      needs = refl;
      call = refl;
    }
event_same event.Go x inside may = record {
  exited = sym (inside_open x.task.phase may);
  waits = sym (inside_entered x.task.phase may);
  needs = refl;
  call = refl;
}
event_same event.AskReturn x inside may = record { exited = refl; waits = refl; needs = refl; call = refl }
event_same event.Return x inside may = record { exited = refl; waits = refl; needs = refl; call = refl }
event_same event.Cancel x inside may = record { exited = refl; waits = refl; needs = refl; call = refl }
event_same event.Borrow x inside may = record { exited = refl; waits = refl; needs = refl; call = refl }
event_same event.Unborrow x inside may = record { exited = refl; waits = refl; needs = refl; call = refl }
event_same event.ToldCancel x inside may = record { exited = refl; waits = refl; needs = refl; call = refl }
event_same event.Exit x inside may = absurd inside

happened_by : (h : Held) (t : ℕ) (b : Bool) (o : Option TaskTrap) (x : TaskSlot) (later : TaskView) → (b ≡ true → o ≡ None → Same h (with_task t (slots.with_task later x) h))
    → ListsBy h (happened (if b then slots.trapped o else Err event_error.NotNow) t (if b then slots.with_task (tasks.unless o later x.task) x else x) h)
happened_by h t true None x later p = p refl refl
happened_by h t true (Some why) x later p = tt
happened_by h t false o x later p = tt

pub happens_lists : (t : ℕ) (e : TaskEvent) (h : Held) → IsInside e → ListsBy h (happens t e h)
happens_lists t e h inside =
    lists_given h (slice_get h.tasks t) (λ slot. happened (event_answer e slot.task) t (advanced_slot e slot) h)
    (λ slot is.
    happened_by h t (may_happen e slot.task) (fault e slot.task) slot (tasks.after e slot.task)
    (λ may none. lists_task h t slot (slots.with_task (tasks.after e slot.task) slot) is (event_same e slot inside may)))

-- What follows where it happened.
followed_by : {A : Type 0} (h l : Held) (t : ℕ) (b : Bool) (o : Option TaskTrap) (x : TaskSlot) (later : TaskView) (c : Unit {0} → Held → Done A)
    → (b ≡ true → o ≡ None → ListsBy h (c tt (with_task t (slots.with_task later x) l)))
    → ListsBy h (after (happened (if b then slots.trapped o else Err event_error.NotNow) t (if b then slots.with_task (tasks.unless o later x.task) x else x) l) c)
followed_by h l t true None x later c p = p refl refl
followed_by h l t true (Some why) x later c p = tt
followed_by h l t false o x later c p = tt

pub happened_then : {A : Type 0} (h l : Held) (t : ℕ) (e : TaskEvent) (c : Unit {0} → Held → Done A)
    → ((x : TaskSlot) → slice_get l.tasks t ≡ Some x → may_happen e x.task ≡ true → ListsBy h (c tt (with_task t (slots.with_task (tasks.after e x.task) x) l)))
    → ListsBy h (after (happens t e l) c)
happened_then h l t e c p =
    lists_look h (slice_get l.tasks t) (λ slot. happened (event_answer e slot.task) t (advanced_slot e slot) l) c
    (λ x is. followed_by h l t (may_happen e x.task) (fault e x.task) x (tasks.after e x.task) c (λ may none. p x is may))

pub errand_set_lists : (t : ℕ) (errand : Errand) (h : Held) → ListsBy h (errand_set t errand h)
errand_set_lists t errand h =
    lists_given h (slice_get h.tasks t) (λ slot. Gives (tt {0}) (with_task t (at_errand errand slot) h)) (λ slot is. lists_task h t slot (at_errand errand slot) is (record { exited = refl; waits = refl; needs = refl; call = refl }))

pub words_set_lists : (t : ℕ) (words : List ℕ) (h : Held) → ListsBy h (words_set t words h)
words_set_lists t words h =
    lists_given h (slice_get h.tasks t) (λ slot. Gives (tt {0}) (with_task t (at_call words slot) h)) (λ slot is. lists_task h t slot (at_call words slot) is (record { exited = refl; waits = refl; needs = refl; call = refl }))

pub context_set_lists : (t : ℕ) (number : ℕ) (word : ℕ) (h : Held) → ListsBy h (context_set t number word h)
context_set_lists t number word h =
    lists_given h (slice_get h.tasks t) (λ slot. Gives (tt {0}) (with_task t (with_word number word slot) h)) (λ slot is. lists_task h t slot (with_word number word slot) is (record { exited = refl; waits = refl; needs = refl; call = refl }))

pub payload_found_lists : (t : ℕ) (h : Held) → ListsBy h (payload_found t h)
payload_found_lists t h =
    lists_given h (slice_get h.tasks t) (λ slot. given (called_of slot.caller) (λ called. Gives (code_of called.subtask.state) h)) (λ slot is. lists_given h (called_of slot.caller) (λ called. Gives (code_of called.subtask.state) h) (λ called is. lists_same h))

pub delivered_lists : (t : ℕ) (h : Held) → ListsBy h (delivered t h)
delivered_lists t h =
    lists_given h (slice_get h.tasks t) (λ slot. given (called_of slot.caller) (λ called. Gives (is_over called.subtask.told) h)) (λ slot is. lists_given h (called_of slot.caller) (λ called. Gives (is_over called.subtask.told) h) (λ called is. lists_same h))

pub lends_found_lists : (t : ℕ) (h : Held) → ListsBy h (lends_found t h)
lends_found_lists t h =
    lists_given h (slice_get h.tasks t) (λ slot. given (called_of slot.caller) (λ called. Gives called.subtask.lends h)) (λ slot is. lists_given h (called_of slot.caller) (λ called. Gives called.subtask.lends h) (λ called is. lists_same h))

pub result_found_lists : (t : ℕ) (h : Held) → ListsBy h (result_found t h)
result_found_lists t h =
    lists_given h (slice_get h.tasks t) (λ slot. given (called_of slot.caller) (λ called. Gives called.result h)) (λ slot is. lists_given h (called_of slot.caller) (λ called. Gives called.result h) (λ called is. lists_same h))

-- The call of a task is another one.
pub called_same : (x : TaskSlot) (f : Called → Called) → SlotSame x (slots.with_called f x)
called_same x f = record { exited = refl; waits = refl; needs = refl; call = call_kept f x.caller }

pub raised_lists : (t : ℕ) (state : SubtaskState) (h : Held) → ListsBy h (raised t state h)
raised_lists t state h =
    lists_given h (slice_get h.tasks t) (λ slot. if may_raise state slot.caller then Gives (tt {0}) (with_task t (raised_slot state slot) h) else Stuck) (λ slot is. lists_if h (may_raise state slot.caller) (Gives (tt {0}) (with_task t (raised_slot state slot) h)) (Stuck) (lists_task h t slot (raised_slot state slot) is (called_same slot (callers.raised state))) tt)

pub result_kept_lists : (t : ℕ) (words : List ℕ) (h : Held) → ListsBy h (result_kept t words h)
result_kept_lists t words h =
    lists_given h (slice_get h.tasks t) (λ slot. if may_keep slot.caller then Gives (tt {0}) (with_task t (kept_slot words slot) h) else Stuck) (λ slot is. lists_if h (may_keep slot.caller) (Gives (tt {0}) (with_task t (kept_slot words slot) h)) (Stuck) (lists_task h t slot (kept_slot words slot) is (called_same slot (λ called. record called { result = words }))) tt)

pub awaited_lists : (t : ℕ) (is_awaited : Bool) (h : Held) → ListsBy h (awaited t is_awaited h)
awaited_lists t is_awaited h =
    lists_given h (slice_get h.tasks t) (λ slot. if may_keep slot.caller then Gives (tt {0}) (with_task t (awaited_slot is_awaited slot) h) else Stuck) (λ slot is. lists_if h (may_keep slot.caller) (Gives (tt {0}) (with_task t (awaited_slot is_awaited slot) h)) (Stuck) (lists_task h t slot (awaited_slot is_awaited slot) is (called_same slot (callers.awaited is_awaited))) tt)

told_by_lists : (o : Option ℕ) (t : ℕ) (slot : TaskSlot) (h : Held) → slice_get h.tasks t ≡ Some slot → ListsBy h (told_by o t (told_slot slot) h)
told_by_lists None t slot h is = tt
told_by_lists (Some payload) t slot h is = lists_task h t slot (told_slot slot) is (called_same slot callers.told)

pub state_told_lists : (t : ℕ) (h : Held) → ListsBy h (state_told t h)
state_told_lists t h =
    lists_given h (slice_get h.tasks t) (λ slot. told_by (payload_of slot.caller) t (told_slot slot) h) (λ slot is. told_by_lists (payload_of slot.caller) t slot h is)

pub next_task_lists : (h : Held) → ListsBy h (next_task h)
next_task_lists h =
    lists_same h
