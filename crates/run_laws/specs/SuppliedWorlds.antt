-- What laws of reached worlds give of what is asked of a move (Component Model, CanonicalABI.md; Concurrency.md, "Summary"), from that a run reaches the world, where definitions of the graph are apart and the script passes no end: a subtask in
-- a table was called from there and runs elsewhere, a task cancels another one, which was called from its own instance, a copy that is to be told is waited for directly exactly
-- where its call waits, an end stands once, and none that was dropped does.
use Rattle.std.specs.Prelude.{◌≡◌, ℕ, List, Some}
use Rattle.std.specs.List.{slice_get}
use Rattle.comp_graph.specs.Graph.{Graph, Lifted}
use Rattle.script_reader.specs.Script.{Script}
use Rattle.trace_labels.specs.declared.label.Label.{Label}
use Rattle.abi_machine.specs.World.{AfterCancel, Task, World, first_world}
use Rattle.abi_machine.specs.Reading.{func_of}
use Rattle.abi_machine.specs.Run.{Reaches}
use Rattle.abi_machine.specs.sound.EndsPassed.{ScriptPassesNoEnd}
use Rattle.abi_machine.specs.sound.Owners.{IsApart}
use Rattle.reach_laws.specs.KnownEnds.{EndsStandOnce}
use Rattle.standing.specs.Ends.{HasLiveEnds}
use Rattle.standing.specs.News.{CopiesWait}
use Rattle.run_laws.specs.Supplied.{SubtasksAreCalledOut, CancelsOthers}
use Rattle.run_laws.specs.Taking.{CalledFrom}

pub record IsSuppliedWorld (g : Graph) (w : World) : Type 0 where
  pub called_out : SubtasksAreCalledOut w
  pub others : CancelsOthers w
  pub cancels : (t callee number : ℕ) (words : List ℕ) (task : Task) (f : Lifted) → slice_get w.tasks t ≡ Some task → func_of task.callee ≡ Some f → task.state ≡ AfterCancel callee number words
      → CalledFrom w f.instance callee
  pub copies : (at : ℕ) → CopiesWait g w at
  pub ends : (at : ℕ) → HasLiveEnds w at
  pub once : EndsStandOnce w

abbrev pub WorldsAreSupplied : Type 0
WorldsAreSupplied = (g : Graph) (s : Script) (steps : List (List Label)) (w : World) → IsApart g → ScriptPassesNoEnd s → Reaches g s (first_world g) steps w → IsSuppliedWorld g w
