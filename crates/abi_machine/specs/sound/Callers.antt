-- How tasks are called (Component Model, CanonicalABI.md, `canon lower`, `canon resource.drop`): a task that another one called was called by a
-- canonical function of the graph.
use Rattle.std.specs.Prelude.{◌≡◌, List, IsSome}
use Rattle.std.specs.List.{AllByRecursion}
use Rattle.comp_graph.specs.Graph.{Graph}
use Rattle.script_reader.specs.Script.{Script}
use Rattle.trace_labels.specs.declared.label.Label.{Label}
use Rattle.abi_machine.specs.World.{Caller, Nobody, Host, Guest, Task, World, first_world}
use Rattle.abi_machine.specs.Canons.{canon_at}
use Rattle.abi_machine.specs.Turn.{Steps}
use Rattle.abi_machine.specs.Next.{next}
use Rattle.abi_machine.specs.sound.Initial.{RunsAlone}
use Rattle.abi_machine.specs.sound.Acting.{IsOrdered}

abbrev pub IsByCanon : Graph → Caller → Type 0
IsByCanon g Nobody = Unit {0}
IsByCanon g (Host call values) = Unit {0}
IsByCanon g (Guest subtask) = IsSome (canon_at g subtask.canon)

abbrev pub AreByCanons : Graph → List Task → Type 0
AreByCanons g tasks = AllByRecursion (λ task. IsByCanon g task.caller) tasks

-- So it is in the first world, and so it stays.
abbrev pub FirstByCanons : Type 0
FirstByCanons = (g : Graph) → AreByCanons g (first_world g).tasks

abbrev pub ByCanonsStay : Type 0
ByCanonsStay =
    (g : Graph) (s : Script) (w v : World) (labels : List Label) → RunsAlone w → IsOrdered w → AreByCanons g w.tasks → next g s w ≡ Steps labels v → AreByCanons g v.tasks
