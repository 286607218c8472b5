-- What is kept well of tasks and of their calls (Component Model, CanonicalABI.md, "Task State", "Subtask State"; Concurrency.md, "Cancellation"): invariants of
-- what is kept alone, which marks ask for where they are to stay. Every part of a step keeps them.
use Rattle.std.specs.Prelude.{◌≡◌, ℕ, true, false, Some}
use Rattle.std.specs.List.{slice_get}
use Rattle.tasks.specs.Subtasks.{is_over}
use Rattle.task_table.specs.declared.caller.Called.{Called}
use Rattle.task_table.specs.declared.errand.Errand.TheVariants as errand
use Rattle.task_table.specs.declared.slot.TaskSlot.{TaskSlot}
use Rattle.task_table.specs.Callers.{called_of}
use Rattle.world_parts.specs.Held.{Held, Done, Gives, Traps, Spent, Stuck}
use Rattle.run_laws.specs.keeping.Kept.{ToldGaveBack, AskedAreOpen}

-- Where its caller was told that a call has resolved, the state that the caller sees says so.
abbrev pub ToldAreOver : Held → Type 0
ToldAreOver h =
    (t : ℕ) (slot : TaskSlot) (called : Called) → slice_get h.tasks t ≡ Some slot → called_of slot.caller ≡ Some called → is_over called.subtask.told ≡ true
    → is_over called.subtask.state ≡ true

-- No task waits directly for a call while control has yet to come back to its caller.
abbrev pub CalledUnawaited : Held → Type 0
CalledUnawaited h =
    (t callee canon : ℕ) (slot x : TaskSlot) (called : Called) → slice_get h.tasks t ≡ Some slot → slot.errand ≡ errand.AfterCall callee canon → slice_get h.tasks callee ≡ Some x
    → called_of x.caller ≡ Some called → called.is_awaited ≡ false

-- No task called the one of a number while control has yet to come back. Of one that a task cancels it is so.
abbrev pub NoneCalls : Held → ℕ → Type 0
NoneCalls h callee = (n canon : ℕ) (slot : TaskSlot) → slice_get h.tasks n ≡ Some slot → slot.errand ≡ errand.AfterCall callee canon → ⊥

abbrev pub CancelsApart : Held → Type 0
CancelsApart h =
    (t callee canon index : ℕ) (slot : TaskSlot) → slice_get h.tasks t ≡ Some slot → slot.errand ≡ errand.AfterCancel callee canon index → NoneCalls h callee

-- All of what is kept well.
pub record KeptWell (h : Held) : Type 0 where
  pub gave : ToldGaveBack h
  pub over : ToldAreOver h
  pub asked : AskedAreOpen h
  pub unawaited : CalledUnawaited h

-- They stay.
abbrev pub WellStays : Held → Held → Type 0
WellStays h k = KeptWell h → KeptWell k

-- So it is of what a part gives. Behind a trap, and where fuel is wanting, no run goes on.
abbrev pub KeepsWell : {A : Type 0} → Held → Done A → Type 0
KeepsWell h (Gives x k) = WellStays h k
KeepsWell h (Traps why k) = Unit {0}
KeepsWell h (Spent k) = Unit {0}
KeepsWell h Stuck = Unit {0}
