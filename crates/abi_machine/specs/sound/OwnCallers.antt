-- How tasks are called (Component Model, CanonicalABI.md, `canon lower`, `canon resource.drop`): a task that another one called was called by one
-- that is there, by a canonical function that the component instance made whose function that one runs.
use Rattle.std.specs.Prelude.{◌≡◌, ℕ, List, Some}
use Rattle.std.specs.List.{AllByRecursion}
use Rattle.comp_graph.specs.Graph.{Graph, Lifted}
use Rattle.script_reader.specs.Script.{Script}
use Rattle.trace_labels.specs.declared.label.Label.{Label}
use Rattle.abi_machine.specs.World.{Caller, Nobody, Host, Guest, Task, World, first_world}
use Rattle.abi_machine.specs.Reading.{func_of}
use Rattle.abi_machine.specs.Turn.{Steps}
use Rattle.abi_machine.specs.Next.{next}
use Rattle.abi_machine.specs.sound.Initial.{RunsAlone}
use Rattle.abi_machine.specs.sound.Acting.{IsOrdered}
use Rattle.abi_machine.specs.sound.Firsts.{TaskIs}
use Rattle.abi_machine.specs.sound.Owners.{owner_of_canon, IsApart, IsOwnWorld, IsControlOwn}

-- A task runs a function of the component instance that made the canonical function of a number.
abbrev pub MadeByOwn : Graph → ℕ → Task → Type 0
MadeByOwn g number task = (f : Lifted) × (func_of task.callee ≡ Some f) × (owner_of_canon g number ≡ Some f.instance)

abbrev pub IsByOwn : Graph → List Task → Caller → Type 0
IsByOwn g tasks Nobody = Unit {0}
IsByOwn g tasks (Host call values) = Unit {0}
IsByOwn g tasks (Guest subtask) = TaskIs tasks subtask.by (MadeByOwn g subtask.canon)

abbrev pub AreByOwn : Graph → List Task → Type 0
AreByOwn g tasks = AllByRecursion (λ task. IsByOwn g tasks task.caller) tasks

-- So it is in the first world, and so it stays.
abbrev pub FirstByOwn : Type 0
FirstByOwn = (g : Graph) → AreByOwn g (first_world g).tasks

abbrev pub ByOwnStay : Type 0
ByOwnStay =
    (g : Graph) (s : Script) (w v : World) (labels : List Label) → IsApart g → RunsAlone w → IsOrdered w → IsOwnWorld g w → IsControlOwn g w.control w → AreByOwn g w.tasks
    → next g s w ≡ Steps labels v → AreByOwn g v.tasks
