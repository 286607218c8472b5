-- What was picked (Component Model, Concurrency.md, "Nondeterminism"): where one of several alternatives was picked, it is there.
use Rattle.std.specs.Prelude.{◌≡◌, List, IsSome}
use Rattle.std.specs.List.{slice_get}
use Rattle.comp_graph.specs.Graph.{Graph}
use Rattle.script_reader.specs.Script.{Script}
use Rattle.trace_labels.specs.declared.label.Label.{Label}
use Rattle.abi_machine.specs.Control.{Control, Free, Chosen}
use Rattle.abi_machine.specs.World.{World, first_world}
use Rattle.abi_machine.specs.Edits.{with_control}
use Rattle.abi_machine.specs.Scheduling.{alternatives}
use Rattle.abi_machine.specs.Turn.{Steps}
use Rattle.abi_machine.specs.Next.{next}
use Rattle.abi_machine.specs.sound.Initial.{RunsAlone}
use Rattle.abi_machine.specs.sound.Acting.{IsOrdered}

abbrev pub IsPicked : Graph → Script → Control → World → Type 0
IsPicked g s (Chosen k) w = IsSome (slice_get (alternatives g s (with_control Free w)) k)
IsPicked g s control w = Unit {0}

-- So it is in the first world, and behind every step.
abbrev pub FirstIsPicked : Type 0
FirstIsPicked = (g : Graph) (s : Script) → IsPicked g s (first_world g).control (first_world g)

abbrev pub PickedStays : Type 0
PickedStays = (g : Graph) (s : Script) (w v : World) (labels : List Label) → RunsAlone w → IsOrdered w → next g s w ≡ Steps labels v → IsPicked g s v.control v
