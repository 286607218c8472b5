-- A subtask that is cancelled, and all marks (Component Model, CanonicalABI.md, `canon subtask.cancel`, "Subtask State"): control that is back at the task that
-- cancels keeps them. A task waits directly for the subtask from where it blocks up to where it goes on.
use Rattle.std.specs.Prelude.{◌≡◌, ℕ, ◌-◌, Bool, true, false, ◌&&◌, length, Some}
use Rattle.std.specs.List.{slice_get}
use Rattle.tasks.specs.Tasks.{state_of}
use Rattle.tasks.specs.Subtasks.{is_over}
use Rattle.instances.specs.declared.entry.WorldEntry.TheVariants as entry
use Rattle.instances.specs.Instances.{InstanceView, entry_of}
use Rattle.task_table.specs.declared.errand.Errand.{Errand}
use Rattle.task_table.specs.declared.errand.Errand.TheVariants as errand
use Rattle.task_table.specs.declared.slot.TaskSlot.{TaskSlot}
use Rattle.task_table.specs.Slots.{waits_directly_at}
use Rattle.world_parts.specs.Views.{Views}
use Rattle.world_parts.specs.Held.{Held}
use Rattle.world_parts.specs.Calls.{back_from_cancel, back}
use Rattle.standing.specs.KeptMarks.{runs_at}
use Rattle.run_laws.specs.keeping.Kept.{KeepsMarks, TableIsSound, NoneWaitsNext, IsNotAwaited, CalledFrom, ToldGaveBack}

-- A subtask stands in no other place than at an index of the table of an instance.
abbrev pub StandsOnly : Held → ℕ → ℕ → ℕ → Type 0
StandsOnly h at index callee =
    (n m : ℕ) (i : InstanceView) → slice_get h.instances n ≡ Some i → entry_of i m ≡ Some (entry.Subtask callee) → (n ≡ at) × (m ≡ index)

-- It stands there, and in no other place.
pub record StandsOnce (h : Held) (at index callee : ℕ) : Type 0 where
  pub there : (i : InstanceView) → slice_get h.instances at ≡ Some i → entry_of i index ≡ Some (entry.Subtask callee)
  pub only : StandsOnly h at index callee

-- The task that cancels runs at the instance. While the subtask has not resolved it stands there.
pub record CancelsThere (h : Held) (t at callee index : ℕ) : Type 0 where
  pub runs : (slot : TaskSlot) → slice_get h.tasks t ≡ Some slot → runs_at at slot ≡ true
  pub stands : (slot : TaskSlot) → slice_get h.tasks callee ≡ Some slot → is_over (state_of slot.task) ≡ false → StandsOnce h at index callee

-- Control is back: the subtask has resolved, which is told, or the task blocks until it has, or is not to wait.
abbrev pub CancelBackKeepsMarks : Type 0
CancelBackKeepsMarks =
    (g : Views) (t at callee canon index : ℕ) (h : Held) → CalledFrom h at callee → ToldGaveBack h → CancelsThere h t at callee index
    → KeepsMarks h (back_from_cancel g t at callee canon index h)

-- One task at most, of an instance, waits directly at an index.
abbrev pub waits_direct : ℕ → ℕ → TaskSlot → Bool
waits_direct at index slot = runs_at at slot && waits_directly_at index slot.task.phase

abbrev pub OneWaits : Held → ℕ → ℕ → Type 0
OneWaits h at index =
    (n m : ℕ) (x y : TaskSlot) → slice_get h.tasks n ≡ Some x → slice_get h.tasks m ≡ Some y → waits_direct at index x ≡ true → waits_direct at index y ≡ true → n ≡ m

-- Control is back at the acting task, whatever it called or cancelled: what is asked, by what it is at.
abbrev pub BackWell : Held → ℕ → TaskSlot → Errand → Type 0
BackWell h t x errand.None = Unit {0}
BackWell h t x (errand.AfterCall callee canon) =
    CalledFrom h x.instance callee × ToldGaveBack h × TableIsSound h x.instance × NoneWaitsNext h x.instance × IsNotAwaited h callee
BackWell h t x (errand.AfterCancel callee canon index) = CalledFrom h x.instance callee × ToldGaveBack h × CancelsThere h t x.instance callee index
BackWell h t x (errand.Begins n) = Unit {0}
BackWell h t x (errand.InBuiltin canon) = Unit {0}

abbrev pub ControlBackKeepsMarks : Type 0
ControlBackKeepsMarks =
    (g : Views) (h : Held) → ((t : ℕ) (x : TaskSlot) → slice_get h.chain (length h.chain - 1) ≡ Some t → slice_get h.tasks t ≡ Some x → BackWell h t x x.errand) → KeepsMarks h (back g h)
