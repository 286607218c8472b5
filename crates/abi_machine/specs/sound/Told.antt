-- What callers were told (Component Model, CanonicalABI.md, "Subtask State"; Concurrency.md, "Cancellation"): the state of a subtask that its
-- caller was told last is at most the one that it has, so no other state is told after one in which it has resolved. A task that
-- resolved as cancelled was told that this is asked, or was never asked.
use Rattle.std.specs.Prelude.{◌≡◌, ◌≤◌, true, List, Option, Some}
use Rattle.std.specs.List.{AllByRecursion}
use Rattle.tasks.specs.declared.phase.Cancellation.{Cancellation}
use Rattle.tasks.specs.declared.phase.Cancellation.TheVariants.{Asked}
use Rattle.tasks.specs.declared.phase.Resolution.{Resolution}
use Rattle.tasks.specs.declared.phase.Resolution.TheVariants.{Cancelled}
use Rattle.tasks.specs.declared.subtask_state.SubtaskState.{SubtaskState}
use Rattle.tasks.specs.Subtasks.{code_of, is_over}
use Rattle.comp_graph.specs.Graph.{Graph}
use Rattle.script_reader.specs.Script.{Script}
use Rattle.trace_labels.specs.declared.label.Label.{Label}
use Rattle.abi_machine.specs.World.{Subtask, Caller, Guest, Task, World, first_world}
use Rattle.abi_machine.specs.Counting.{subtask_state}
use Rattle.abi_machine.specs.Turn.{Steps}
use Rattle.abi_machine.specs.Next.{next}
use Rattle.abi_machine.specs.sound.Initial.{RunsAlone}

-- what was told last of a subtask that is in this state
pub record IsToldOf (subtask : Subtask) (state : SubtaskState) : Type 0 where
  pub rises : code_of subtask.told ≤ code_of state
  pub once : is_over subtask.told ≡ true → subtask.told ≡ state

abbrev pub IsToldAt : Caller → SubtaskState → Type 0
IsToldAt (Guest subtask) state = IsToldOf subtask state
IsToldAt caller state = Unit {0}

-- a task that resolved as cancelled does not wait to be told that this is asked
abbrev pub WasTold : Option Resolution → Cancellation → Type 0
WasTold (Some Cancelled) Asked = ⊥
WasTold resolution cancellation = Unit {0}

pub record IsTold (task : Task) : Type 0 where
  pub caller : IsToldAt task.caller (subtask_state task)
  pub cancelled : WasTold task.resolution task.cancellation

abbrev pub AreTold : List Task → Type 0
AreTold tasks = AllByRecursion IsTold tasks

-- So it is in the first world, and so it stays.
abbrev pub FirstIsTold : Type 0
FirstIsTold = (g : Graph) → AreTold (first_world g).tasks

abbrev pub ToldStays : Type 0
ToldStays = (g : Graph) (s : Script) (w v : World) (labels : List Label) → RunsAlone w → AreTold w.tasks → next g s w ≡ Steps labels v → AreTold v.tasks
