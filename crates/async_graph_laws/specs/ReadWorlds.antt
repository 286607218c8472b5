-- Worlds that runs of what is read reach (Component Model, Explainer.md, "Instance Definitions"; CanonicalABI.md, "Subtask State", "Stream State" and
-- "Future State"): of each component file that is read and linked, and of each script that is read for it, it is known there who called a task and where
-- it runs, where ends stand, and who waits for a copy.
use Rattle.std.specs.Prelude.{ℕ, List}
use Rattle.trace_labels.specs.declared.label.Label.{Label}
use Rattle.comp_graph.specs.Graph.{Graph}
use Rattle.script_reader.specs.Script.{Script}
use Rattle.abi_machine.specs.World.{World, first_world}
use Rattle.abi_machine.specs.Run.{Reaches}
use Rattle.reach_laws.specs.KnownCalls.{CallsAreKnown}
use Rattle.reach_laws.specs.KnownEnds.{EndsAreKnown}
use Rattle.reach_laws.specs.KnownCopies.{CopiesAreKnown}
use Rattle.async_graph_laws.specs.ReadRuns.{AreRead}

pub record IsKnown (g : Graph) (w : World) : Type 0 where
  pub calls : CallsAreKnown w
  pub ends : EndsAreKnown w
  pub copies : CopiesAreKnown g w

abbrev pub ReadWorldsAreKnown : Type 0
ReadWorldsAreKnown =
    (file text : List ℕ) (g : Graph) (s : Script) (steps : List (List Label)) (w : World)
    → AreRead file text g s → Reaches g s (first_world g) steps w → IsKnown g w
