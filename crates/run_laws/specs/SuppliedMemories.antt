-- The memories that options name (Core 2.0, Modules; Component Model, CanonicalABI.md, "Canonical ABI Options"): a module has one memory at most, so each that is there is its first.
use Rattle.comp_graph.specs.Graph.{Graph}
use Rattle.script_reader.specs.Script.{Script}
use Rattle.reach_laws.specs.Runnable.{IsRunnable}
use Rattle.run_laws.specs.SuppliedPassings.{NamesFirstMemories}

abbrev pub RunnableGraphsNameFirst : Type 0
RunnableGraphsNameFirst = (g : Graph) (s : Script) → IsRunnable g s → NamesFirstMemories g
