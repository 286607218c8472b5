-- What is read fits (Component Model, Explainer.md, "Instance Definitions"; Concurrency.md, "Summary"): the graph to which a component file is
-- read and linked, and each script that is read for it, are what laws of runs of the code ask of a graph and a script.
use Rattle.std.specs.Prelude.{ℕ, List}
use Rattle.comp_graph.specs.Graph.{Graph}
use Rattle.script_reader.specs.Script.{Script}
use Rattle.reach_laws.specs.Fits.{Fits}
use Rattle.async_graph_laws.specs.ReadRuns.{AreRead}

abbrev pub ReadRunsFit : Type 0
ReadRunsFit = (file text : List ℕ) (g : Graph) (s : Script) → AreRead file text g s → Fits g s
