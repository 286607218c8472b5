-- Tasks (Component Model, CanonicalABI.md, "Task State" and "Subtask State"; Concurrency.md, "Cancellation"): what is told of one, what happens to
-- it, and what it and its caller keep.
use Rattle.std.specs.Prelude.{ℕ, ◌+◌, ◌^◌, nat_lt, Bool, if◌then◌else◌, List, [], ◌∷◌, ◌++◌, length, slice_set, Option, Some, None, Result, Ok, Err}
use Rattle.std.specs.List.{slice_get}
use Rattle.std.specs.Option.{option_and_then}
use Rattle.entry_gate.specs.declared.kind.Kind.{Kind}
use Rattle.entry_gate.specs.Kinds.{needs_entry}
use Rattle.tasks.specs.declared.event.TaskEvent.{TaskEvent}
use Rattle.tasks.specs.declared.event.Asked.{Asked}
use Rattle.tasks.specs.declared.phase.Phase.{Phase}
use Rattle.tasks.specs.declared.phase.Resolution.{Resolution}
use Rattle.tasks.specs.declared.subtask_state.SubtaskState.{SubtaskState}
use Rattle.tasks.specs.Tasks.{is_asked, is_unasked, may_cancel, state_of}
use Rattle.tasks.specs.Subtasks.{code_of, is_over}
use Rattle.task_table.specs.declared.errand.Callee.{Callee}
use Rattle.task_table.specs.declared.errand.Errand.{Errand}
use Rattle.task_table.specs.declared.refusal.EventError.{EventError}
use Rattle.task_table.specs.declared.refusal.EventError.TheVariants as event_error
use Rattle.task_table.specs.declared.slot.TaskSlot.{TaskSlot}
use Rattle.task_table.specs.Callers.{called_of, payload_of, may_raise, may_keep}
use Rattle.task_table.specs.Slots.{event_answer, advanced_slot, cancel_answer, cancelled_slot, is_to_be_told, word_at, with_word, at_errand, at_call, raised_slot, awaited_slot, told_slot, kept_slot}
use Rattle.task_table.specs.Tasks.{with_number, without, watching, unwatched, parked_by, is_among_callers}
use Rattle.world_parts.specs.Names.{task_name}
use Rattle.world_parts.specs.Held.{Held, Done, Gives, Traps, Stuck, after, given}
use Rattle.world_parts.specs.Gates.{entry_is_free}

-- a task is changed
abbrev pub with_task : ℕ → TaskSlot → Held → Held
with_task t slot h = record h { tasks = slice_set h.tasks t slot }

-- What is told of a task: the number of its instance, its kind, what it runs, how far it is, what it is at, a word of context; that it has
-- resolved, that its cancellation is asked, and that this is to be told.
abbrev pub instance_of : ℕ → Held → Done ℕ
instance_of t h = given (slice_get h.tasks t) (λ slot. Gives slot.instance h)

abbrev pub kind_of : ℕ → Held → Done Kind
kind_of t h = given (slice_get h.tasks t) (λ slot. Gives slot.task.kind h)

abbrev pub callee_of : ℕ → Held → Done Callee
callee_of t h = given (slice_get h.tasks t) (λ slot. Gives slot.callee h)

abbrev pub phase_of : ℕ → Held → Done Phase
phase_of t h = given (slice_get h.tasks t) (λ slot. Gives slot.task.phase h)

abbrev pub resolution_of : ℕ → Held → Done (Option Resolution)
resolution_of t h = given (slice_get h.tasks t) (λ slot. Gives slot.task.resolution h)

abbrev pub errand_of : ℕ → Held → Done Errand
errand_of t h = given (slice_get h.tasks t) (λ slot. Gives slot.errand h)

abbrev pub context_of : ℕ → ℕ → Held → Done ℕ
context_of t number h = given (slice_get h.tasks t) (λ slot. Gives (word_at number slot.context) h)

abbrev pub asked : ℕ → Held → Done Bool
asked t h = given (slice_get h.tasks t) (λ slot. Gives (is_asked slot.task.cancellation) h)

abbrev pub unasked : ℕ → Held → Done Bool
unasked t h = given (slice_get h.tasks t) (λ slot. Gives (is_unasked slot.task.cancellation) h)

abbrev pub cancellable : ℕ → Held → Done Bool
cancellable t h = given (slice_get h.tasks t) (λ slot. Gives (may_cancel slot.task) h)

abbrev pub resolved : ℕ → Held → Done Bool
resolved t h = given (slice_get h.tasks t) (λ slot. Gives (is_over (state_of slot.task)) h)

abbrev pub to_be_told : ℕ → Held → Done Bool
to_be_told t h =
    after (instance_of t h) (λ at k. after (entry_is_free at k) (λ free l. given (slice_get l.tasks t) (λ slot. Gives (is_to_be_told free slot.task) l)))

-- a word of a call, where it is a 32-bit one
abbrev pub small : ℕ → Option ℕ
small word = if nat_lt word (2 ^ 32) then Some word else None

abbrev pub word_in : List ℕ → ℕ → Option ℕ
word_in words number = option_and_then small (slice_get words number)

-- The words of the call at which a task is, and one of them. Code that runs for it while it is blocked calls with other words.
abbrev pub word_of : ℕ → ℕ → Held → Done ℕ
word_of t number h = given (slice_get h.tasks t) (λ slot. given (word_in slot.at_words number) (λ word. Gives word h))

abbrev pub words_of : ℕ → Held → Done (List ℕ)
words_of t h = given (slice_get h.tasks t) (λ slot. Gives slot.at_words h)

-- Something happens to a task, or is refused.
abbrev pub happened : Result (Unit {0}) EventError → ℕ → TaskSlot → Held → Done (Unit {0})
happened (Ok done) t slot h = Gives tt (with_task t slot h)
happened (Err event_error.NotNow) t slot h = Stuck
happened (Err (event_error.Trap why)) t slot h = Traps (task_name why) (with_task t slot h)

abbrev pub happens : ℕ → TaskEvent → Held → Done (Unit {0})
happens t e h = given (slice_get h.tasks t) (λ slot. happened (event_answer e slot.task) t (advanced_slot e slot) h)

-- Its cancellation is asked.
abbrev pub asked_by : Option Asked → ℕ → TaskSlot → Held → Done Asked
asked_by None t slot h = Stuck
asked_by (Some case) t slot h = Gives case (with_task t slot h)

abbrev pub cancel_asked : ℕ → Held → Done Asked
cancel_asked t h =
    after (instance_of t h) (λ at k. after (entry_is_free at k) (λ free l.
    given (slice_get l.tasks t) (λ slot. asked_by (cancel_answer free slot.task) t (cancelled_slot free slot) l)))

-- What it is at, the words of the call, and a word of context are others.
abbrev pub errand_set : ℕ → Errand → Held → Done (Unit {0})
errand_set t errand h = given (slice_get h.tasks t) (λ slot. Gives tt (with_task t (at_errand errand slot) h))

abbrev pub words_set : ℕ → List ℕ → Held → Done (Unit {0})
words_set t words h = given (slice_get h.tasks t) (λ slot. Gives tt (with_task t (at_call words slot) h))

abbrev pub context_set : ℕ → ℕ → ℕ → Held → Done (Unit {0})
context_set t number word h = given (slice_get h.tasks t) (λ slot. Gives tt (with_task t (with_word number word slot) h))

-- The call of a task by another one: the state that the caller is told next, whether it was told that the task has resolved, the handles that
-- are lent, and the words of the result.
abbrev pub payload_found : ℕ → Held → Done ℕ
payload_found t h = given (slice_get h.tasks t) (λ slot. given (called_of slot.caller) (λ called. Gives (code_of called.subtask.state) h))

abbrev pub delivered : ℕ → Held → Done Bool
delivered t h = given (slice_get h.tasks t) (λ slot. given (called_of slot.caller) (λ called. Gives (is_over called.subtask.told) h))

abbrev pub lends_found : ℕ → Held → Done (List ℕ)
lends_found t h = given (slice_get h.tasks t) (λ slot. given (called_of slot.caller) (λ called. Gives called.subtask.lends h))

abbrev pub result_found : ℕ → Held → Done (List ℕ)
result_found t h = given (slice_get h.tasks t) (λ slot. given (called_of slot.caller) (λ called. Gives called.result h))

-- Its state rises, its result is kept, and its state is waited for directly or not, and is told.
abbrev pub raised : ℕ → SubtaskState → Held → Done (Unit {0})
raised t state h =
    given (slice_get h.tasks t) (λ slot. if may_raise state slot.caller then Gives tt (with_task t (raised_slot state slot) h) else Stuck)

abbrev pub result_kept : ℕ → List ℕ → Held → Done (Unit {0})
result_kept t words h =
    given (slice_get h.tasks t) (λ slot. if may_keep slot.caller then Gives tt (with_task t (kept_slot words slot) h) else Stuck)

abbrev pub awaited : ℕ → Bool → Held → Done (Unit {0})
awaited t is_awaited h =
    given (slice_get h.tasks t) (λ slot. if may_keep slot.caller then Gives tt (with_task t (awaited_slot is_awaited slot) h) else Stuck)

abbrev pub told_by : Option ℕ → ℕ → TaskSlot → Held → Done ℕ
told_by None t slot h = Stuck
told_by (Some payload) t slot h = Gives payload (with_task t slot h)

abbrev pub state_told : ℕ → Held → Done ℕ
state_told t h = given (slice_get h.tasks t) (λ slot. told_by (payload_of slot.caller) t (told_slot slot) h)

-- The number of the next task. A task is made, one has exited, one waits to enter or does so no more, and one is that of the script's next call.
abbrev pub next_task : Held → Done ℕ
next_task h = Gives (length h.tasks) h

abbrev pub task_made : TaskSlot → Held → Done ℕ
task_made slot h =
    Gives (length h.tasks)
    (record h { tasks = h.tasks ++ slot ∷ []; live = with_number (length h.tasks) h.live; watched = watching (length h.tasks) h.watched })

abbrev pub closed : ℕ → Held → Done (Unit {0})
closed t h = Gives tt (record h { live = without t h.live; watched = unwatched t h.watched })

abbrev pub parked : ℕ → Kind → Held → Done (Unit {0})
parked t kind h = Gives tt (record h { watched = parked_by (needs_entry kind) t h.watched })

abbrev pub unparked : ℕ → Held → Done (Unit {0})
unparked t h = Gives tt (record h { watched = watching t h.watched })

abbrev pub call_made : ℕ → Held → Done (Unit {0})
call_made t h = Gives tt (record h { calls = h.calls ++ t ∷ [] })

-- A call of a function of this instance by a task comes back to an instance that waits for it.
abbrev pub reenters : ℕ → ℕ → Held → Bool
reenters instance t h = is_among_callers (length h.tasks) instance (Some t) h.tasks
