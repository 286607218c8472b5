-- Copies (Component Model, CanonicalABI.md, "Stream State" and "Future State", `canon stream.{read,write}`): at each end of a stream or a future the
-- counts of the copy under way are in their ranges, and an end that is done has none; of both ends at most one has an offer that stands.
use Rattle.std.specs.Prelude.{◌≡◌, List}
use Rattle.std.specs.List.{AllByRecursion}
use Rattle.stream_ends.specs.Meeting as stream
use Rattle.future_ends.specs.Meeting as future
use Rattle.comp_graph.specs.Graph.{Graph}
use Rattle.script_reader.specs.Script.{Script}
use Rattle.trace_labels.specs.declared.label.Label.{Label}
use Rattle.abi_machine.specs.World.{Channel, World, first_world}
use Rattle.abi_machine.specs.Turn.{Steps}
use Rattle.abi_machine.specs.Next.{next}
use Rattle.abi_machine.specs.sound.Initial.{RunsAlone}

pub record AreCopied (streams futures : List Channel) : Type 0 where
  pub of_streams : AllByRecursion (λ c. stream.Sound c.ends.view) streams
  pub of_futures : AllByRecursion (λ c. future.Sound c.ends.view) futures

abbrev pub IsCopied : World → Type 0
IsCopied w = AreCopied w.streams w.futures

-- So it is in the first world, and so it stays.
abbrev pub FirstIsCopied : Type 0
FirstIsCopied = (g : Graph) → IsCopied (first_world g)

abbrev pub CopiesStay : Type 0
CopiesStay = (g : Graph) (s : Script) (w v : World) (labels : List Label) → RunsAlone w → IsCopied w → next g s w ≡ Steps labels v → IsCopied v
