-- Offers (Component Model, CanonicalABI.md, "Stream State" and "Future State", `canon stream.drop-{readable,writable}`): a copy is under way at an end of a
-- stream or a future, and nothing is to be told of it yet. Then the other end was not dropped, since the drop of an end is told to the copy that is under way
-- at the other one, and a copy that begins when the other end is dropped is told so at once.
use Rattle.std.specs.Prelude.{◌≡◌, false, List, Option, Some, None}
use Rattle.std.specs.List.{AllByRecursion}
use Rattle.stream_ends.specs.declared.open_copy.OpenCopy.{OpenCopy}
use Rattle.stream_ends.specs.declared.stream_end.End.{End}
use Rattle.stream_ends.specs.Ends.{EndsView}
use Rattle.comp_graph.specs.Graph.{Graph}
use Rattle.script_reader.specs.Script.{Script}
use Rattle.trace_labels.specs.declared.label.Label.{Label}
use Rattle.abi_machine.specs.World.{Channel, World, first_world}
use Rattle.abi_machine.specs.Turn.{Steps}
use Rattle.abi_machine.specs.Next.{next}
use Rattle.abi_machine.specs.Run.{Reaches}
use Rattle.abi_machine.specs.sound.Initial.{RunsAlone}
use Rattle.abi_machine.specs.sound.Copies.{IsCopied}

-- of the copy under way at an end, where there is one, and of the other end
abbrev pub IsOpenTo : Option OpenCopy → End → Type 0
IsOpenTo None other = Unit {0}
IsOpenTo (Some copy) other = copy.event ≡ None → other.dropped ≡ false

-- of both ends
pub record AreOpen (ends : EndsView) : Type 0 where
  pub reader : IsOpenTo ends.reader.copy ends.writer
  pub writer : IsOpenTo ends.writer.copy ends.reader

-- of streams and futures, whose copies are in their ranges
pub record OffersOpen (streams futures : List Channel) : Type 0 where
  pub of_streams : AllByRecursion (λ c. AreOpen c.ends.view) streams
  pub of_futures : AllByRecursion (λ c. AreOpen c.ends.view) futures

abbrev pub HasOpenOffers : World → Type 0
HasOpenOffers w = IsCopied w × OffersOpen w.streams w.futures

-- So it is in the first world, and so it stays; and so it is in each world that a run reaches.
abbrev pub FirstHasOpenOffers : Type 0
FirstHasOpenOffers = (g : Graph) → HasOpenOffers (first_world g)

abbrev pub OffersStayOpen : Type 0
OffersStayOpen =
    (g : Graph) (s : Script) (w v : World) (labels : List Label) → RunsAlone w → HasOpenOffers w → next g s w ≡ Steps labels v → HasOpenOffers v

abbrev pub ReachedOffersAreOpen : Type 0
ReachedOffersAreOpen = (g : Graph) (s : Script) (steps : List (List Label)) (w : World) → Reaches g s (first_world g) steps w → HasOpenOffers w
