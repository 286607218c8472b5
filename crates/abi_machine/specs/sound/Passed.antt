-- Elements of streams and futures (Component Model, CanonicalABI.md, "Stream State" and "Future State"): those that were written are those
-- that were read, in order, so that nothing is held between the ends.
use Rattle.std.specs.Prelude.{◌≡◌, List}
use Rattle.std.specs.List.{AllByRecursion}
use Rattle.comp_graph.specs.Graph.{Graph}
use Rattle.script_reader.specs.Script.{Script}
use Rattle.trace_labels.specs.declared.label.Label.{Label}
use Rattle.abi_machine.specs.World.{Channel, World, first_world}
use Rattle.abi_machine.specs.Turn.{Steps}
use Rattle.abi_machine.specs.Next.{next}
use Rattle.abi_machine.specs.sound.Initial.{RunsAlone}

abbrev pub HoldNothing : List Channel → Type 0
HoldNothing all = AllByRecursion (λ c. c.read ≡ c.written) all

abbrev pub HoldsNothing : World → Type 0
HoldsNothing w = HoldNothing w.streams × HoldNothing w.futures

-- So it is in the first world, and so it stays.
abbrev pub FirstHoldsNothing : Type 0
FirstHoldsNothing = (g : Graph) → HoldsNothing (first_world g)

abbrev pub NothingIsHeld : Type 0
NothingIsHeld = (g : Graph) (s : Script) (w v : World) (labels : List Label) → RunsAlone w → HoldsNothing w → next g s w ≡ Steps labels v → HoldsNothing v
