-- What tasks wait as (Component Model, CanonicalABI.md, `canon subtask.cancel`, `canon lift`): one that cancels another cancels one that a task
-- called, and one that is in its loop runs a function with a callback.
use Rattle.std.specs.Prelude.{◌≡◌, ℕ, List, Some}
use Rattle.std.specs.List.{slice_get}
use Rattle.entry_gate.specs.declared.kind.Kind.TheVariants.{Callback}
use Rattle.comp_graph.specs.Graph.{Graph}
use Rattle.script_reader.specs.Script.{Script}
use Rattle.trace_labels.specs.declared.label.Label.{Label}
use Rattle.abi_machine.specs.World.{Callee, TaskState, AfterCancel, InLoop, Task, World, first_world}
use Rattle.abi_machine.specs.Reading.{func_of, kind_of_func}
use Rattle.abi_machine.specs.Turn.{Steps}
use Rattle.abi_machine.specs.Next.{next}
use Rattle.abi_machine.specs.sound.Changes.{IsGuest}
use Rattle.abi_machine.specs.sound.Initial.{RunsAlone}

-- by what a task does and its state
abbrev pub WaitsAs : List Task → Callee → TaskState → Type 0
WaitsAs tasks callee (AfterCancel cancelled number words) = IsGuest tasks cancelled
WaitsAs tasks callee (InLoop word) = kind_of_func (func_of callee) ≡ Callback
WaitsAs tasks callee state = Unit {0}

abbrev pub WaitAs : List Task → Type 0
WaitAs tasks = (t : ℕ) (task : Task) → slice_get tasks t ≡ Some task → WaitsAs tasks task.callee task.state

-- So it is in the first world, and so it stays.
abbrev pub FirstWaitsAs : Type 0
FirstWaitsAs = (g : Graph) → WaitAs (first_world g).tasks

abbrev pub WaitsAsStay : Type 0
WaitsAsStay = (g : Graph) (s : Script) (w v : World) (labels : List Label) → RunsAlone w → WaitAs w.tasks → next g s w ≡ Steps labels v → WaitAs v.tasks
