-- Writable ends stay in one place: so it is in the first world, and so it stays.
use Rattle.std.specs.Prelude.{◌≡◌, List}
use Rattle.comp_graph.specs.Graph.{Graph}
use Rattle.script_reader.specs.Script.{Script}
use Rattle.trace_labels.specs.declared.label.Label.{Label}
use Rattle.abi_machine.specs.World.{World, first_world}
use Rattle.abi_machine.specs.Turn.{Steps}
use Rattle.abi_machine.specs.Next.{next}
use Rattle.abi_machine.specs.sound.Initial.{RunsAlone}
use Rattle.abi_machine.specs.sound.EndPlaces.{WritersStandOnce}

abbrev pub FirstHasWriters : Type 0
FirstHasWriters = (g : Graph) → WritersStandOnce (first_world g)

abbrev pub WritersStayInOnePlace : Type 0
WritersStayInOnePlace = (g : Graph) (s : Script) (w v : World) (labels : List Label) → RunsAlone w → next g s w ≡ Steps labels v → WritersStandOnce v
