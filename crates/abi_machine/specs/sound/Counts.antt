-- Counts (Component Model, CanonicalABI.md, "Stream State" and "Future State"): at each end of a stream or a future the counts of the copies that
-- were told and of the one under way add up to as many elements as were carried, so that between the ends nothing is held or lost.
use Rattle.std.specs.Prelude.{◌≡◌, List, length}
use Rattle.std.specs.List.{AllByRecursion}
use Rattle.stream_ends.specs.declared.side.Side.{Side}
use Rattle.stream_ends.specs.Runs.{passed}
use Rattle.comp_graph.specs.Graph.{Graph}
use Rattle.script_reader.specs.Script.{Script}
use Rattle.trace_labels.specs.declared.label.Label.{Label}
use Rattle.abi_machine.specs.World.{Channel, World, first_world}
use Rattle.abi_machine.specs.Turn.{Steps}
use Rattle.abi_machine.specs.Next.{next}
use Rattle.abi_machine.specs.sound.Initial.{RunsAlone}
use Rattle.abi_machine.specs.sound.Copies.{IsCopied}

abbrev pub AddsUp : Channel → Type 0
AddsUp c = (side : Side) → passed side c.ends ≡ length c.written

pub record AddUp (streams futures : List Channel) : Type 0 where
  pub of_streams : AllByRecursion AddsUp streams
  pub of_futures : AllByRecursion AddsUp futures

abbrev pub CountsAddUp : World → Type 0
CountsAddUp w = AddUp w.streams w.futures

-- So it is in the first world, and so it stays.
abbrev pub FirstAddsUp : Type 0
FirstAddsUp = (g : Graph) → CountsAddUp (first_world g)

abbrev pub CountsStay : Type 0
CountsStay = (g : Graph) (s : Script) (w v : World) (labels : List Label) → RunsAlone w → IsCopied w → CountsAddUp w → next g s w ≡ Steps labels v → CountsAddUp v
