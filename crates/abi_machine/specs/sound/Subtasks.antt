-- Subtasks (Component Model, CanonicalABI.md, `canon lower`, `canon subtask.cancel`, "Subtask State"): one that stands in a table was called by a
-- canonical function that does not wait, and stands there once. One for which its caller waits in a call stands in no table, and nothing was told
-- of it; and none that is cancelled is waited for so.
use Rattle.std.specs.Prelude.{◌≡◌, ℕ, true, false, List, Some, IsSome}
use Rattle.std.specs.List.{slice_get}
use Rattle.handle_table.specs.History.{live}
use Rattle.tasks.specs.declared.subtask_state.SubtaskState.TheVariants.{Starting}
use Rattle.comp_graph.specs.Graph.{Graph}
use Rattle.script_reader.specs.Script.{Script}
use Rattle.trace_labels.specs.declared.label.Label.{Label}
use Rattle.abi_machine.specs.World.{OfSubtask, Inst, Subtask, ForCall, TaskState, AfterCancel, InBuiltin, Task, World, first_world}
use Rattle.abi_machine.specs.Canons.{options_at}
use Rattle.abi_machine.specs.Reading.{table_in, subtask_of}
use Rattle.abi_machine.specs.Turn.{Steps}
use Rattle.abi_machine.specs.Next.{next}
use Rattle.abi_machine.specs.sound.Initial.{RunsAlone}
use Rattle.abi_machine.specs.sound.Numbers.{IsNumbered}
use Rattle.abi_machine.specs.sound.Acting.{IsOrdered}
use Rattle.abi_machine.specs.sound.Called.{HaveCalled, CalledBy}

-- The subtask that a task is stands at an index of the table of an instance; or it stands in none.
abbrev pub StandsAt : List Inst → ℕ → ℕ → ℕ → Type 0
StandsAt insts i index callee = live (table_in (slice_get insts i)) index ≡ Some (OfSubtask callee)

abbrev pub StandsNowhere : List Inst → ℕ → Type 0
StandsNowhere insts callee = (i index : ℕ) → StandsAt insts i index callee → ⊥

-- what holds of the caller's side of the call of a task
abbrev pub CallIs : List Task → ℕ → (Subtask → Type 0) → Type 0
CallIs tasks callee P = (task : Task) × (slice_get tasks callee ≡ Some task) × ((subtask : Subtask) × (subtask_of task.caller ≡ Some subtask) × P subtask)

-- The caller does not wait; it was told nothing yet.
abbrev pub IsAsync : Graph → Subtask → Type 0
IsAsync g subtask = (options_at g subtask.canon).is_async ≡ true

abbrev pub IsUntold : Subtask → Type 0
IsUntold subtask = subtask.told ≡ Starting

-- No task waits for it in a call.
abbrev pub IsUnawaited : List Task → ℕ → Type 0
IsUnawaited tasks callee = (t number : ℕ) (task : Task) → slice_get tasks t ≡ Some task → CalledBy task.state callee number → ⊥

-- The canonical function of a call that blocks is one that waits.
abbrev pub WaitsSync : Graph → TaskState → Type 0
WaitsSync g (InBuiltin number words (ForCall callee)) = (options_at g number).is_async ≡ false
WaitsSync g state = Unit {0}

-- one that a task cancels
abbrev pub CancelsApart : List Task → TaskState → Type 0
CancelsApart tasks (AfterCancel callee number words) = IsSome (slice_get tasks callee) × IsUnawaited tasks callee
CancelsApart tasks state = Unit {0}

pub record AreSubtasks (g : Graph) (tasks : List Task) (insts : List Inst) : Type 0 where
  pub async : (i index callee : ℕ) → StandsAt insts i index callee → CallIs tasks callee (IsAsync g)
  pub once : (i index j other callee : ℕ) → StandsAt insts i index callee → StandsAt insts j other callee → (i ≡ j) × (index ≡ other)
  pub awaited : (t callee number : ℕ) (task : Task) → slice_get tasks t ≡ Some task → CalledBy task.state callee number → CallIs tasks callee IsUntold × StandsNowhere insts callee
  pub sync : (t : ℕ) (task : Task) → slice_get tasks t ≡ Some task → WaitsSync g task.state
  pub cancelled : (t : ℕ) (task : Task) → slice_get tasks t ≡ Some task → CancelsApart tasks task.state

abbrev pub HasSubtasks : Graph → World → Type 0
HasSubtasks g w = AreSubtasks g w.tasks w.insts

-- So it is in the first world, and so it stays.
abbrev pub FirstHasSubtasks : Type 0
FirstHasSubtasks = (g : Graph) → HasSubtasks g (first_world g)

abbrev pub SubtasksStay : Type 0
SubtasksStay =
    (g : Graph) (s : Script) (w v : World) (labels : List Label) → RunsAlone w → IsOrdered w → IsNumbered w → HaveCalled w.tasks → HasSubtasks g w → next g s w ≡ Steps labels v
    → HasSubtasks g v
