-- Cancelled subtasks (Component Model, CanonicalABI.md, `canon subtask.cancel`, "Subtask State"): one that a task cancels stands at its index in the
-- table of the component instance whose function that task runs, until its caller is told that it has resolved, which it is not while the task is
-- blocked; its cancellation is asked, or it has resolved while the task that cancels it acts; and one task at most cancels it.
use Rattle.std.specs.Prelude.{◌≡◌, ◌⊎◌, ℕ, true, false, List, Option, Some, None, IsSome}
use Rattle.std.specs.List.{slice_get}
use Rattle.tasks.specs.Subtasks.{is_over}
use Rattle.tasks.specs.Tasks.{is_unasked}
use Rattle.comp_graph.specs.Graph.{Graph, Lifted}
use Rattle.script_reader.specs.Script.{Script}
use Rattle.trace_labels.specs.declared.label.Label.{Label}
use Rattle.abi_machine.specs.World.{Inst, Subtask, ForCancel, TaskState, AfterCancel, InBuiltin, Task, World, first_world}
use Rattle.abi_machine.specs.Reading.{func_of}
use Rattle.abi_machine.specs.Cancelling.{first_of}
use Rattle.abi_machine.specs.Turn.{Steps}
use Rattle.abi_machine.specs.Next.{next}
use Rattle.abi_machine.specs.sound.Changes.{IsFirst}
use Rattle.abi_machine.specs.sound.Firsts.{TaskIs}
use Rattle.abi_machine.specs.sound.Initial.{RunsAlone}
use Rattle.abi_machine.specs.sound.Acting.{IsOrdered}
use Rattle.abi_machine.specs.sound.Tables.{HaveHistories}
use Rattle.abi_machine.specs.sound.Called.{HaveCalled}
use Rattle.abi_machine.specs.sound.Told.{AreTold}
use Rattle.abi_machine.specs.sound.Subtasks.{StandsAt, CallIs, HasSubtasks}
use Rattle.abi_machine.specs.sound.Owners.{IsApart, IsOwnWorld, IsControlOwn}

-- The subtask that a task is stands at an index of the table of the instance whose function is run.
abbrev pub StandsIn : List Inst → Option Lifted → ℕ → ℕ → Type 0
StandsIn insts None index callee = ⊥
StandsIn insts (Some f) index callee = StandsAt insts f.instance index callee

-- A task cancels the task of a number: it asked for that, or is blocked until that one has resolved.
abbrev pub CancelsSo : List Inst → Option Lifted → TaskState → ℕ → Type 0
CancelsSo insts f (AfterCancel cancelled number words) callee = cancelled ≡ callee
CancelsSo insts f (InBuiltin number words (ForCancel index)) callee = StandsIn insts f index callee
CancelsSo insts f state callee = ⊥

abbrev pub CancelsTask : List Inst → Task → ℕ → Type 0
CancelsTask insts task callee = CancelsSo insts (func_of task.callee) task.state callee

abbrev pub IsResolved : Task → Type 0
IsResolved task = IsSome task.resolution

abbrev pub WasAsked : Task → Type 0
WasAsked task = is_unasked task.cancellation ≡ false

-- Its caller was told that it has resolved, or not yet.
abbrev pub IsOver : Subtask → Type 0
IsOver subtask = is_over subtask.told ≡ true

abbrev pub IsNotOver : Subtask → Type 0
IsNotOver subtask = is_over subtask.told ≡ false

-- what a state says of the subtask
abbrev pub CancelStands : List Task → List Inst → Option Lifted → TaskState → Type 0
CancelStands tasks insts f (AfterCancel callee number words) = CallIs tasks callee IsOver ⊎ StandsIn insts f (first_of words) callee
CancelStands tasks insts f (InBuiltin number words (ForCancel index)) = (callee : ℕ) × StandsIn insts f index callee × CallIs tasks callee IsNotOver
CancelStands tasks insts f state = Unit {0}

pub record AreCancelled (tasks : List Task) (insts : List Inst) (chain : List ℕ) : Type 0 where
  pub stands : (t : ℕ) (task : Task) → slice_get tasks t ≡ Some task → CancelStands tasks insts (func_of task.callee) task.state
  pub asked : (t callee : ℕ) (task : Task) → slice_get tasks t ≡ Some task → CancelsTask insts task callee → TaskIs tasks callee WasAsked ⊎ (TaskIs tasks callee IsResolved × IsFirst t chain)
  pub one : (t u callee : ℕ) (x y : Task) → slice_get tasks t ≡ Some x → slice_get tasks u ≡ Some y → CancelsTask insts x callee → CancelsTask insts y callee → t ≡ u

abbrev pub HasCancels : World → Type 0
HasCancels w = AreCancelled w.tasks w.insts w.chain

-- So it is in the first world, and so it stays.
abbrev pub FirstHasCancels : Type 0
FirstHasCancels = (g : Graph) → HasCancels (first_world g)

abbrev pub CancelsStay : Type 0
CancelsStay =
    (g : Graph) (s : Script) (w v : World) (labels : List Label) → IsApart g → RunsAlone w → IsOrdered w → HaveHistories w.insts → HaveCalled w.tasks → HasSubtasks g w → AreTold w.tasks
    → IsOwnWorld g w → IsControlOwn g w.control w → HasCancels w → next g s w ≡ Steps labels v → HasCancels v
