-- Tasks with what a run keeps of them (Component Model, CanonicalABI.md, "Task State"; Concurrency.md, "Cancellation" and "Waitables and
-- Waitable Sets"), and what a call changes of one.
use Rattle.std.specs.Prelude.{◌≡◌, ℕ, zero, suc, nat_eq, Bool, true, false, ◌&&◌, if◌then◌else◌, List, [], Option, Some, None, Result, Ok, Err}
use Rattle.entry_gate.specs.declared.kind.Kind.{Kind}
use Rattle.entry_gate.specs.declared.callback.Next.{Next}
use Rattle.entry_gate.specs.declared.callback.Next.TheVariants as next
use Rattle.entry_gate.specs.declared.callback.BadCode.{BadCode}
use Rattle.entry_gate.specs.Callbacks.{callback_of}
use Rattle.tasks.specs.Views.{TaskView}
use Rattle.tasks.specs.Tasks.{new_task, may_happen, fault, advanced, may_cancel, cancel_case, cancelled, is_asked, is_cancellable}
use Rattle.tasks.specs.declared.event.Asked.{Asked}
use Rattle.tasks.specs.declared.event.BlockedAt.{BlockedAt}
use Rattle.tasks.specs.declared.event.BlockedAt.TheVariants as blocked_at
use Rattle.tasks.specs.declared.event.TaskEvent.{TaskEvent}
use Rattle.tasks.specs.declared.event.TaskTrap.{TaskTrap}
use Rattle.tasks.specs.declared.phase.Phase.{Phase}
use Rattle.tasks.specs.declared.phase.Phase.TheVariants as phase
use Rattle.tasks.specs.declared.subtask_state.SubtaskState.{SubtaskState}
use Rattle.task_table.specs.declared.caller.Called.{Called}
use Rattle.task_table.specs.declared.caller.Caller.{Caller}
use Rattle.task_table.specs.declared.errand.Callee.{Callee}
use Rattle.task_table.specs.declared.errand.Errand.{Errand}
use Rattle.task_table.specs.declared.errand.Errand.TheVariants as errand
use Rattle.task_table.specs.declared.refusal.EventError.{EventError}
use Rattle.task_table.specs.declared.refusal.EventError.TheVariants.{NotNow, Trap}
use Rattle.task_table.specs.declared.refusal.LendError.{LendError}
use Rattle.task_table.specs.declared.slot.TaskSlot.{TaskSlot}
use Rattle.task_table.specs.Callers.{caller_view, raised, told, awaited, changed, CallerLends}

-- a new task
abbrev pub new_slot : ℕ → Kind → Callee → Caller → TaskSlot
new_slot instance kind callee caller = record {
  instance = instance;
  callee = callee;
  caller = caller;
  task = new_task kind (caller_view caller);
  context = (0, 0);
  errand = errand.None;
  at_words = [];
}

abbrev pub with_task : TaskView → TaskSlot → TaskSlot
with_task task slot = record slot { task = task }

abbrev pub with_caller : Caller → TaskSlot → TaskSlot
with_caller caller slot = record slot { caller = caller }

abbrev pub at_errand : Errand → TaskSlot → TaskSlot
at_errand errand slot = record slot { errand = errand }

abbrev pub at_call : List ℕ → TaskSlot → TaskSlot
at_call words slot = record slot { at_words = words }

-- Something happens to a task that is in a state for it, or is refused.
abbrev pub trapped : Option TaskTrap → Result (Unit {0}) EventError
trapped None = Ok tt
trapped (Some trap) = Err (Trap trap)

abbrev pub event_answer : TaskEvent → TaskView → Result (Unit {0}) EventError
event_answer event t = if may_happen event t then trapped (fault event t) else Err NotNow

abbrev pub advanced_slot : TaskEvent → TaskSlot → TaskSlot
advanced_slot event slot = if may_happen event slot.task then with_task (advanced event slot.task) slot else slot

-- A cancellation is asked, where it may be.
abbrev pub cancel_answer : Bool → TaskView → Option Asked
cancel_answer entry_free t = if may_cancel t then Some (cancel_case entry_free t) else None

abbrev pub cancelled_slot : Bool → TaskSlot → TaskSlot
cancelled_slot entry_free slot =
    if may_cancel slot.task then with_task (cancelled (cancel_case entry_free slot.task) slot.task) slot else slot

-- a cancellation that is asked ends the wait of a task
abbrev pub ends_wait : Bool → Kind → Phase → Bool
ends_wait entry_free kind phase.New = false
ends_wait entry_free kind phase.Acting = false
ends_wait entry_free kind (phase.Blocked why flag) = is_cancellable entry_free kind why flag
ends_wait entry_free kind phase.Exited = false

abbrev pub is_to_be_told : Bool → TaskView → Bool
is_to_be_told entry_free t = is_asked t.cancellation && ends_wait entry_free t.kind t.phase

abbrev pub has_exited : Phase → Bool
has_exited phase.New = false
has_exited phase.Acting = false
has_exited (phase.Blocked why flag) = false
has_exited phase.Exited = true

-- A copy of an end and a cancelled subtask are waited for directly, by their index.
abbrev pub blocks_directly_at : ℕ → BlockedAt → Bool
blocks_directly_at index blocked_at.Entry = false
blocks_directly_at index (blocked_at.Loop word) = false
blocks_directly_at index blocked_at.Yield = false
blocks_directly_at index (blocked_at.Set set) = false
blocks_directly_at index (blocked_at.Call callee) = false
blocks_directly_at index (blocked_at.Copy end) = nat_eq end index
blocks_directly_at index (blocked_at.Cancel subtask) = nat_eq subtask index

abbrev pub waits_directly_at : ℕ → Phase → Bool
waits_directly_at index phase.New = false
waits_directly_at index phase.Acting = false
waits_directly_at index (phase.Blocked why flag) = blocks_directly_at index why
waits_directly_at index phase.Exited = false

-- A set is waited on in a built-in, or in a loop.
abbrev pub next_waits_on : ℕ → Result Next BadCode → Bool
next_waits_on index (Ok next.Exit) = false
next_waits_on index (Ok next.Yield) = false
next_waits_on index (Ok (next.Wait set)) = nat_eq set index
next_waits_on index (Ok (next.Poll set)) = nat_eq set index
next_waits_on index (Err why) = false

abbrev pub word_waits_on : ℕ → ℕ → Bool
word_waits_on index word = next_waits_on index (callback_of word)

abbrev pub blocks_on : ℕ → BlockedAt → Bool
blocks_on index blocked_at.Entry = false
blocks_on index (blocked_at.Loop word) = word_waits_on index word
blocks_on index blocked_at.Yield = false
blocks_on index (blocked_at.Set set) = nat_eq set index
blocks_on index (blocked_at.Call callee) = false
blocks_on index (blocked_at.Copy end) = false
blocks_on index (blocked_at.Cancel subtask) = false

abbrev pub waits_on : ℕ → Phase → Bool
waits_on index phase.New = false
waits_on index phase.Acting = false
waits_on index (phase.Blocked why flag) = blocks_on index why
waits_on index phase.Exited = false

-- words of context
abbrev pub word_at : ℕ → ℕ × ℕ → ℕ
word_at zero context = context.0
word_at (suc slot) context = context.1

abbrev pub word_changed : ℕ → ℕ → ℕ × ℕ → ℕ × ℕ
word_changed zero word context = (word, context.1)
word_changed (suc slot) word context = (context.0, word)

abbrev pub with_word : ℕ → ℕ → TaskSlot → TaskSlot
with_word number word slot = record slot { context = word_changed number word slot.context }

-- the call, where a task called
abbrev pub with_called : (Called → Called) → TaskSlot → TaskSlot
with_called f slot = with_caller (changed f slot.caller) slot

abbrev pub raised_slot : SubtaskState → TaskSlot → TaskSlot
raised_slot state slot = with_called (raised state) slot

abbrev pub told_slot : TaskSlot → TaskSlot
told_slot slot = with_called told slot

abbrev pub kept_slot : List ℕ → TaskSlot → TaskSlot
kept_slot words slot = with_called (λ called. record called { result = words }) slot

abbrev pub awaited_slot : Bool → TaskSlot → TaskSlot
awaited_slot is_awaited slot = with_called (awaited is_awaited) slot

-- A handle is lent for the call of a task.
abbrev pub LendGives : ℕ → TaskSlot → Result (Unit {0}) LendError → TaskSlot → Type 0
LendGives handle old result new = CallerLends handle old.caller result new.caller × (new ≡ with_caller new.caller old)
