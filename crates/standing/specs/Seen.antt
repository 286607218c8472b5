-- What the parts of a step ask of a graph (Component Model, CanonicalABI.md, "Canonical ABI Options") is what the machine asks.
use Rattle.comp_graph.specs.Graph.{Graph}
use Rattle.copy_replies.specs.Seen.{seen}
use Rattle.standing.specs.Ends.{Sees}
use Rattle.standing.specs.Events.{SeesCallbacks}

abbrev pub GraphIsSeen : Type 0
GraphIsSeen = (g : Graph) → Sees g (seen g) × SeesCallbacks g (seen g)
