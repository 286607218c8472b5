-- Runs of what is read (Component Model, Explainer.md, "Instance Definitions"; Concurrency.md, "Summary"): of each component file that is read and linked,
-- and of each script that is read for it, in each world that the machine reaches a step or the end of the run comes next, and one alone; and there is
-- exactly one run.
use Rattle.std.specs.Prelude.{ℕ, List}
use Rattle.trace_labels.specs.declared.label.Label.{Label}
use Rattle.comp_tree.specs.declared.items.Component.{Component}
use Rattle.comp_reader.specs.Binary.{IsComponent}
use Rattle.comp_graph.specs.Graph.{Graph}
use Rattle.script_reader.specs.Script.{Script, IsScript}
use Rattle.link_spec.specs.Linked.{IsLinked}
use Rattle.lowering_laws.specs.Values.{AreBytes}
use Rattle.abi_machine.specs.World.{World, first_world}
use Rattle.abi_machine.specs.Next.{next}
use Rattle.abi_machine.specs.Run.{Reaches}
use Rattle.abi_machine.specs.sound.RunsEnd.{GoesOnEverywhere}
use Rattle.reach_laws.specs.Runnable.{IsRunnable}
use Rattle.reach_laws.specs.Going.{IsOne, HasOneRun}

-- A component is read of a file of bytes and linked to the graph, and the script is read of a text for what the graph exports.
pub record AreRead (file text : List ℕ) (g : Graph) (s : Script) : Type 0 where
  pub bytes : AreBytes file
  pub component : Component
  pub read : IsComponent file component
  pub linked : IsLinked component g
  pub script : IsScript g.exports text s

-- Such a graph and script are what the laws of reached worlds ask for.
abbrev pub ReadRunsAreRunnable : Type 0
ReadRunsAreRunnable = (file text : List ℕ) (g : Graph) (s : Script) → AreRead file text g s → IsRunnable g s

-- In each world that is reached one thing comes next.
abbrev pub ReadRunsHaveOneNext : Type 0
ReadRunsHaveOneNext =
    (file text : List ℕ) (g : Graph) (s : Script) (steps : List (List Label)) (w : World)
    → AreRead file text g s → Reaches g s (first_world g) steps w → IsOne (next g s w)

-- So none is stuck.
abbrev pub NoReadRunIsStuck : Type 0
NoReadRunIsStuck = (file text : List ℕ) (g : Graph) (s : Script) → AreRead file text g s → GoesOnEverywhere g s

-- There is one run, with its lines, its last world and its end.
abbrev pub ReadRunsAreOne : Type 0
ReadRunsAreOne = (file text : List ℕ) (g : Graph) (s : Script) → AreRead file text g s → HasOneRun g s
