-- Marks: what is kept beside what stands for a world, and follows from the rest (Component Model, CanonicalABI.md, "Subtask State", `canon
-- task.return`). They speak of what is kept alone.
use Rattle.std.specs.Prelude.{◌≡◌, ℕ, Bool, true, false, List, [], ◌∷◌, ◌++◌, length, slice_set, None, Some}
use Rattle.std.specs.List.{slice_get}
use Rattle.entry_gate.specs.declared.kind.Kind.{Kind}
use Rattle.tasks.specs.declared.event.BlockedAt.{BlockedAt}
use Rattle.tasks.specs.declared.event.TaskEvent.TheVariants.{Block, Go, Return, Cancel, Enter}
use Rattle.tasks.specs.declared.subtask_state.SubtaskState.{SubtaskState}
use Rattle.tasks.specs.declared.subtask_state.SubtaskState.TheVariants as state
use Rattle.tasks.specs.Tasks.{state_of, is_acting, is_entry, waits_inside, is_told, after}
use Rattle.tasks.specs.Views.{TaskView}
use Rattle.task_table.specs.declared.caller.Called.{Called}
use Rattle.task_table.specs.declared.caller.Caller.{Caller}
use Rattle.task_table.specs.declared.caller.Caller.TheVariants.{Nobody, Host, Guest}
use Rattle.task_table.specs.declared.errand.Callee.{Callee}
use Rattle.task_table.specs.declared.slot.TaskSlot.{TaskSlot}
use Rattle.task_table.specs.Callers.{new_called, may_raise}
use Rattle.task_table.specs.Slots.{new_slot, with_task, raised_slot, told_slot, kept_slot, awaited_slot}

-- The state that a caller sees is that of the task, and its call is that of this number.
pub record CallMarked (t : ℕ) (state : SubtaskState) (called : Called) : Type 0 where
  pub number : called.subtask.callee ≡ t
  pub seen : called.subtask.state ≡ state

abbrev pub CallerMarked : ℕ → SubtaskState → Caller → Type 0
CallerMarked t state Nobody = Unit {0}
CallerMarked t state (Host call) = Unit {0}
CallerMarked t state (Guest called) = CallMarked t state called

abbrev pub StateMarked : ℕ → TaskSlot → Type 0
StateMarked t slot = CallerMarked t (state_of slot.task) slot.caller

abbrev pub StatesMarked : List TaskSlot → Type 0
StatesMarked tasks = (t : ℕ) (slot : TaskSlot) → slice_get tasks t ≡ Some slot → StateMarked t slot

-- A task is changed, and one is made.
abbrev pub StatesChange : Type 0
StatesChange =
    (tasks : List TaskSlot) (t : ℕ) (x y : TaskSlot) → slice_get tasks t ≡ Some x → (StateMarked t x → StateMarked t y) → StatesMarked tasks
    → StatesMarked (slice_set tasks t y)

abbrev pub StatesAreMade : Type 0
StatesAreMade = (tasks : List TaskSlot) (slot : TaskSlot) → StateMarked (length tasks) slot → StatesMarked tasks → StatesMarked (tasks ++ slot ∷ [])

-- A new task that another one calls has begun nothing.
abbrev pub NewIsMarked : Type 0
NewIsMarked =
    (t instance by canon : ℕ) (kind : Kind) (callee : Callee) (words : List ℕ) → StateMarked t (new_slot instance kind callee (Guest (new_called by canon words t)))

-- A task's state rises with what its caller sees of it.
abbrev pub StatesRise : Type 0
StatesRise =
    (t : ℕ) (x : TaskSlot) (task : TaskView) (now : SubtaskState) → may_raise now x.caller ≡ true → state_of task ≡ now → StateMarked t x
    → StateMarked t (raised_slot now (with_task task x))

-- It stays where a task blocks inside, and goes on, and where its caller is told it, or keeps or waits for what comes.
abbrev pub StatesStay : Type 0
StatesStay = (t : ℕ) (x : TaskSlot) (task : TaskView) → state_of task ≡ state_of x.task → StateMarked t x → StateMarked t (with_task task x)

abbrev pub BlockedStays : Type 0
BlockedStays =
    (task : TaskView) (why : BlockedAt) (flag : Bool) → is_acting task.phase ≡ true → is_entry why ≡ false → state_of (after (Block why flag) task) ≡ state_of task

abbrev pub GoingStays : Type 0
GoingStays = (task : TaskView) → waits_inside task.phase ≡ true → state_of (after Go task) ≡ state_of task

abbrev pub TellingStays : Type 0
TellingStays = (t : ℕ) (x : TaskSlot) → StateMarked t x → StateMarked t (told_slot x)

abbrev pub KeepingStays : Type 0
KeepingStays = (t : ℕ) (x : TaskSlot) (words : List ℕ) → StateMarked t x → StateMarked t (kept_slot words x)

abbrev pub AwaitingStays : Type 0
AwaitingStays = (t : ℕ) (x : TaskSlot) (is_awaited : Bool) → StateMarked t x → StateMarked t (awaited_slot is_awaited x)

-- What the states are: of a task that enters, returns, and is cancelled once it was told that this is asked.
abbrev pub EnteredIsStarted : Type 0
EnteredIsStarted = (task : TaskView) → task.resolution ≡ None → state_of (after Enter task) ≡ state.Started

abbrev pub ReturnedIsReturned : Type 0
ReturnedIsReturned = (task : TaskView) → state_of (after Return task) ≡ state.Returned

abbrev pub CancelledIsCancelled : Type 0
CancelledIsCancelled = (task : TaskView) → is_told task.cancellation ≡ true → state_of (after Cancel task) ≡ state.CancelledBeforeReturned
