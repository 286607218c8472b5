-- Tasks that wait for one that they called (Component Model, CanonicalABI.md, `canon lower`, "Subtask State"): that one was called by them, and by
-- the canonical function at whose call they wait.
use Rattle.std.specs.Prelude.{◌≡◌, ℕ, List, Some}
use Rattle.std.specs.List.{slice_get}
use Rattle.comp_graph.specs.Graph.{Graph}
use Rattle.script_reader.specs.Script.{Script}
use Rattle.trace_labels.specs.declared.label.Label.{Label}
use Rattle.abi_machine.specs.World.{Subtask, ForCall, TaskState, AfterCall, InBuiltin, Task, World, first_world}
use Rattle.abi_machine.specs.Reading.{subtask_of}
use Rattle.abi_machine.specs.Turn.{Steps}
use Rattle.abi_machine.specs.Next.{next}
use Rattle.abi_machine.specs.sound.Initial.{RunsAlone}
use Rattle.abi_machine.specs.sound.Acting.{IsOrdered}

-- A task was called by the task of a number, by the canonical function of a number.
abbrev pub IsCalledBy : ℕ → ℕ → Task → Type 0
IsCalledBy t number task = (subtask : Subtask) × (subtask_of task.caller ≡ Some subtask) × (subtask.by ≡ t) × (subtask.canon ≡ number)

abbrev pub Called : List Task → ℕ → ℕ → ℕ → Type 0
Called tasks t number callee = (task : Task) × (slice_get tasks callee ≡ Some task) × IsCalledBy t number task

-- what a state says of the task that is waited for
abbrev pub HasCalled : List Task → ℕ → TaskState → Type 0
HasCalled tasks t (AfterCall callee number words) = Called tasks t number callee
HasCalled tasks t (InBuiltin number words (ForCall callee)) = Called tasks t number callee
HasCalled tasks t state = Unit {0}

abbrev pub HaveCalled : List Task → Type 0
HaveCalled tasks = (t : ℕ) (task : Task) → slice_get tasks t ≡ Some task → HasCalled tasks t task.state

-- So it is in the first world, and so it stays.
abbrev pub FirstHasCalled : Type 0
FirstHasCalled = (g : Graph) → HaveCalled (first_world g).tasks

abbrev pub CalledStay : Type 0
CalledStay =
    (g : Graph) (s : Script) (w v : World) (labels : List Label) → RunsAlone w → IsOrdered w → HaveCalled w.tasks → next g s w ≡ Steps labels v → HaveCalled v.tasks

-- A task is waited for by one task at most that called it: which that is, and at which canonical function, stands with it.
abbrev pub CalledBy : TaskState → ℕ → ℕ → Type 0
CalledBy (AfterCall callee number words) waited canon = (callee ≡ waited) × (number ≡ canon)
CalledBy (InBuiltin number words (ForCall callee)) waited canon = (callee ≡ waited) × (number ≡ canon)
CalledBy state waited canon = ⊥

abbrev pub OneWaits : Type 0
OneWaits =
    (tasks : List Task) → HaveCalled tasks → (t u callee number canon : ℕ) (x y : Task) → slice_get tasks t ≡ Some x → slice_get tasks u ≡ Some y → CalledBy x.state callee number
    → CalledBy y.state callee canon → (t ≡ u) × (number ≡ canon)
