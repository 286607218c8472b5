-- Marks that parts of a step keep (Component Model, CanonicalABI.md, "Component Instance State", "Task State", "Subtask State", "Resource State", "Waitable Set
-- State"): where all marks are as they follow from tasks and tables, they are so behind the part.
use Rattle.std.specs.Prelude.{◌≡◌, ℕ, Bool, true, false, ◌&&◌, [], Some, None, IsSome}
use Rattle.std.specs.List.{slice_get}
use Rattle.handle_table.specs.Slots.{next_of}
use Rattle.handle_table.specs.Sound.{IsSound}
use Rattle.entry_gate.specs.Kinds.{needs_entry}
use Rattle.entry_gate.specs.Stays.{is_inside}
use Rattle.tasks.specs.Tasks.{is_asked}
use Rattle.tasks.specs.Subtasks.{is_over}
use Rattle.tasks.specs.declared.phase.Resolution.TheVariants.{Cancelled}
use Rattle.res_handles.specs.declared.handle.Handle.{Handle}
use Rattle.res_handles.specs.declared.handle.Ownership.TheVariants.{Borrow}
use Rattle.instances.specs.declared.entry.WorldEntry.TheVariants as entry
use Rattle.instances.specs.Instances.{InstanceView, entry_of}
use Rattle.task_table.specs.declared.caller.Called.{Called}
use Rattle.task_table.specs.declared.caller.Caller.TheVariants as by
use Rattle.task_table.specs.declared.slot.TaskSlot.{TaskSlot}
use Rattle.task_table.specs.Callers.{called_of}
use Rattle.world_parts.specs.Held.{Held, Done, Gives, Traps, Spent, Stuck}
use Rattle.standing.specs.KeptMarks.{runs_func, runs_at, place_in, HasMarks, LendsMarked, is_task_at, lends_at, awaited_at}

-- They stay.
abbrev pub MarksStay : Held → Held → Type 0
MarksStay h k = HasMarks h → HasMarks k

-- Of these marks what is written down of what is kept tells one: how often each handle is lent.
abbrev pub LendsRight : Held → Type 0
LendsRight h = LendsMarked h.instances h.tasks

-- So it is of what a part gives. Behind a trap no run goes on, and those of handles that are lent are right; where fuel is wanting nothing is said.
abbrev pub KeepsMarks : {A : Type 0} → Held → Done A → Type 0
KeepsMarks h (Gives x k) = MarksStay h k
KeepsMarks h (Traps why k) = HasMarks h → LendsRight k
KeepsMarks h (Spent k) = Unit {0}
KeepsMarks h Stuck = Unit {0}

-- Each number names a task that is there: of one that called another one, of one for which a borrow handle counts, and of a subtask.
pub record NumbersThere (h : Held) : Type 0 where
  pub callers : (t : ℕ) (slot : TaskSlot) (called : Called) → slice_get h.tasks t ≡ Some slot → called_of slot.caller ≡ Some called → IsSome (slice_get h.tasks called.by)
  pub borrowers : (at index task : ℕ) (i : InstanceView) (x : Handle) → slice_get h.instances at ≡ Some i → entry_of i index ≡ Some (entry.Handle x) → x.ownership ≡ Borrow task
      → IsSome (slice_get h.tasks task)
  pub subtasks : (at index callee : ℕ) (i : InstanceView) → slice_get h.instances at ≡ Some i → entry_of i index ≡ Some (entry.Subtask callee) → IsSome (slice_get h.tasks callee)

-- Of the table of an instance: its freed indices are those of empty slots. Where its next entry will stand nothing is lent, and no task waits directly.
abbrev pub TableIsSound : Held → ℕ → Type 0
TableIsSound h at = (i : InstanceView) → slice_get h.instances at ≡ Some i → IsSound i.slots

abbrev pub NextIsUnlent : Held → ℕ → Type 0
NextIsUnlent h at = (i : InstanceView) → slice_get h.instances at ≡ Some i → lends_at h.tasks at (next_of i.slots) ≡ 0

abbrev pub NoneWaitsNext : Held → ℕ → Type 0
NoneWaitsNext h at = (i : InstanceView) → slice_get h.instances at ≡ Some i → awaited_at h.tasks at (next_of i.slots) ≡ false

-- No task waits directly for a call of a task.
abbrev pub IsNotAwaited : Held → ℕ → Type 0
IsNotAwaited h callee = (slot : TaskSlot) (called : Called) → slice_get h.tasks callee ≡ Some slot → slot.caller ≡ by.Guest called → called.is_awaited ≡ false

-- Once its caller was told that a call has resolved, nothing is lent for it.
abbrev pub ToldGaveBack : Held → Type 0
ToldGaveBack h = (t : ℕ) (slot : TaskSlot) (called : Called) → slice_get h.tasks t ≡ Some slot → called_of slot.caller ≡ Some called → is_over called.subtask.told ≡ true → called.subtask.lends ≡ []

-- The task that called another one runs a function of this instance.
abbrev pub CalledFrom : Held → ℕ → ℕ → Type 0
CalledFrom h at callee =
    (slot : TaskSlot) (called : Called) → slice_get h.tasks callee ≡ Some slot → called_of slot.caller ≡ Some called → is_task_at h.tasks at called.by ≡ true

-- So it is of each subtask in the table of an instance.
abbrev pub SubtasksAreOwn : Held → ℕ → Type 0
SubtasksAreOwn h at =
    (index callee : ℕ) (i : InstanceView) → slice_get h.instances at ≡ Some i → entry_of i index ≡ Some (entry.Subtask callee) → CalledFrom h at callee

-- A task that was cancelled was told so, or had not entered: its cancellation is not asked any more.
abbrev pub AskedAreOpen : Held → Type 0
AskedAreOpen h = (t : ℕ) (slot : TaskSlot) → slice_get h.tasks t ≡ Some slot → slot.task.resolution ≡ Some Cancelled → is_asked slot.task.cancellation ≡ false

-- The task of a number runs a function.
abbrev pub RunsFunction : Held → ℕ → Type 0
RunsFunction h t = (slot : TaskSlot) → slice_get h.tasks t ≡ Some slot → runs_func slot.callee ≡ true

-- Where it needs exclusive entry to its instance, no task holds it.
abbrev pub EntersFree : Held → ℕ → Type 0
EntersFree h t =
    (slot : TaskSlot) (i : InstanceView) → slice_get h.tasks t ≡ Some slot → slice_get h.instances slot.instance ≡ Some i → needs_entry slot.task.kind ≡ true → i.gate.holder ≡ None

-- A task that runs at an instance, inside, holds exclusive entry where it needs it. One at most does.
abbrev pub holds_entry : ℕ → TaskSlot → Bool
holds_entry at slot = runs_at at slot && (needs_entry slot.task.kind && is_inside (place_in slot.task.phase))

abbrev pub OneHolds : Held → Type 0
OneHolds h =
    (at n m : ℕ) (x y : TaskSlot) → slice_get h.tasks n ≡ Some x → slice_get h.tasks m ≡ Some y → holds_entry at x ≡ true → holds_entry at y ≡ true → n ≡ m
