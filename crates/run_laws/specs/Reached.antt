-- What laws of reached worlds give of a call of a canonical function (Component Model, CanonicalABI.md, "Canonical Definitions"; Concurrency.md, "Summary"):
-- once all is instantiated the acting task acts, and runs a function of the component instance that made that one; callers run functions, sets were made,
-- and subtasks run functions. What else is asked is named.
use Rattle.std.specs.Prelude.{◌≡◌, ℕ, true, List, Some, IsSome}
use Rattle.std.specs.List.{slice_get}
use Rattle.syntax_trees.specs.declared.types.ValType.{ValType}
use Rattle.wasm_store.specs.Stack.{Stack}
use Rattle.comp_graph.specs.declared.graph.CanonFunc.{CanonFunc}
use Rattle.comp_graph.specs.Graph.{Graph, Lifted}
use Rattle.script_reader.specs.Script.{Script}
use Rattle.trace_labels.specs.declared.label.Label.{Label}
use Rattle.world_parts.specs.Held.{Held}
use Rattle.abi_machine.specs.Control.{Calls}
use Rattle.abi_machine.specs.World.{OfSubtask, Task, World, first_world}
use Rattle.abi_machine.specs.Canons.{canon_at, inst_of_canon}
use Rattle.abi_machine.specs.Reading.{entry_at, func_of, may_leave}
use Rattle.abi_machine.specs.Run.{Reaches}
use Rattle.abi_machine.specs.sound.EndsPassed.{ScriptPassesNoEnd}
use Rattle.abi_machine.specs.sound.Owners.{IsApart}
use Rattle.abi_machine.specs.sound.PassedTypes.{PassesNoBorrow}
use Rattle.standing.specs.Callings.{CallersRun}
use Rattle.standing.specs.Ends.{HasLiveEnds}
use Rattle.standing.specs.News.{CopiesWait}
use Rattle.standing.specs.Stands.{Stands}
use Rattle.run_laws.specs.Answering.{CallsOwn, IsSoundAt}

-- The acting task is at a call of the canonical function of a number, in a component instance that is there.
pub record IsAtCall (g : Graph) (w : World) (number : ℕ) (words : List ℕ) (c : CanonFunc) (t : ℕ) (task : Task) : Type 0 where
  pub control : w.control ≡ Calls number words
  pub made : canon_at g number ≡ Some c
  pub first : slice_get w.chain 0 ≡ Some t
  pub there : slice_get w.tasks t ≡ Some task
  pub inside : IsSome (slice_get w.insts (inst_of_canon c))

abbrev pub CallsAreOwn : Type 0
CallsAreOwn =
    (g : Graph) (s : Script) (steps : List (List Label)) (w : World) (number : ℕ) (words : List ℕ) (c : CanonFunc) (t : ℕ) (task : Task)
    → IsApart g → Reaches g s (first_world g) steps w → IsAtCall g w number words c t task → may_leave w ≡ true → (f : Lifted) × CallsOwn w t task f c

abbrev pub CallersRunThere : Type 0
CallersRunThere = (g : Graph) (s : Script) (steps : List (List Label)) (w : World) → IsApart g → Reaches g s (first_world g) steps w → CallersRun w

-- The component instances of all functions that run are there; and, besides, a task is no subtask in the table of the instance in which it
-- runs, no end that was dropped stands in a table, and a copy that is to be told is waited for directly exactly where its call waits.
pub record StillAsked (g : Graph) (w : World) (t at : ℕ) : Type 0 where
  pub instances : (n : ℕ) (task : Task) (f : Lifted) → slice_get w.tasks n ≡ Some task → func_of task.callee ≡ Some f → IsSome (slice_get w.insts f.instance)
  pub apart : (index : ℕ) → entry_at w at index ≡ Some (OfSubtask t) → ⊥
  pub ends : HasLiveEnds w at
  pub copies : CopiesWait g w at

abbrev pub WorldsAreSound : Type 0
WorldsAreSound =
    (g : Graph) (s : Script) (steps : List (List Label)) (w : World) (t at : ℕ) → IsApart g → Reaches g s (first_world g) steps w → StillAsked g w t at → IsSoundAt g w t at

-- What is kept stands for a world that a run reaches, of a graph whose definitions are apart and whose results and elements hold no borrow, and of a script that
-- passes no end.
pub record StandsReached (g : Graph) (values : List ValType) (s : Script) (h : Held) (stacks : List (List Stack)) (w : World) : Type 0 where
  pub apart : IsApart g
  pub no_borrow : PassesNoBorrow g
  pub no_end : ScriptPassesNoEnd s
  pub steps : List (List Label)
  pub reached : Reaches g s (first_world g) steps w
  pub stands : Stands g values s h stacks w
