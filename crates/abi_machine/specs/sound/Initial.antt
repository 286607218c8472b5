-- Task 0 (Component Model, Concurrency.md, "Summary"; Explainer.md, "Instance Definitions"): it instantiates, and runs alone until it has
-- exited; it never runs again, and no other task runs a start function. What control says of the chain, of the acting task and of a copy
-- that is half done is so. A task that has not entered has not resolved, and no borrow handle names it; and a writable end stands in one
-- place, and so does a readable one where the script passes none.
use Rattle.std.specs.Prelude.{◌≡◌, ◌≤◌, ℕ, suc, List, [], ◌∷◌, Some}
use Rattle.std.specs.List.{slice_get, AllByRecursion}
use Rattle.comp_graph.specs.Graph.{Graph}
use Rattle.script_reader.specs.Script.{Script}
use Rattle.trace_labels.specs.declared.label.Label.{Label}
use Rattle.abi_machine.specs.World.{Init, TaskState, Acting, Begins, Exited, Task, World, first_world}
use Rattle.abi_machine.specs.Turn.{Steps}
use Rattle.abi_machine.specs.Next.{next}
use Rattle.abi_machine.specs.sound.Controls.{Says}
use Rattle.abi_machine.specs.sound.Agreeing.{Agrees}
use Rattle.abi_machine.specs.sound.Entering.{EnterUnresolved}
use Rattle.abi_machine.specs.sound.EndPlaces.{WritersStandOnce}
use Rattle.abi_machine.specs.sound.EndsPassed.{ReadersPass}
use Rattle.abi_machine.specs.sound.Entered.{HaveEntered}

-- the chain, by the state of task 0
abbrev pub IsInitial : TaskState → List ℕ → Type 0
IsInitial Acting chain = chain ≡ 0 ∷ []
IsInitial (Begins n) chain = chain ≡ 0 ∷ []
IsInitial Exited chain = AllByRecursion (λ t. 1 ≤ t) chain
IsInitial other chain = ⊥

abbrev pub StartsNothing : TaskState → Type 0
StartsNothing (Begins n) = ⊥
StartsNothing other = Unit {0}

pub record InitRunsAlone (tasks : List Task) (chain : List ℕ) : Type 0 where
  pub init : Task
  pub there : slice_get tasks 0 ≡ Some init
  pub instantiates : init.callee ≡ Init
  pub alone : IsInitial init.state chain
  pub others : (n : ℕ) (task : Task) → slice_get tasks (suc n) ≡ Some task → StartsNothing task.state

abbrev pub RunsAlone : World → Type 0
RunsAlone w = InitRunsAlone w.tasks w.chain × Says w.control w.chain × Agrees w.control w × EnterUnresolved w.tasks × WritersStandOnce w × HaveEntered w × ReadersPass w

-- So it is in the first world, and so it stays.
abbrev pub FirstRunsAlone : Type 0
FirstRunsAlone = (g : Graph) → RunsAlone (first_world g)

abbrev pub StaysAlone : Type 0
StaysAlone = (g : Graph) (s : Script) (w v : World) (labels : List Label) → RunsAlone w → next g s w ≡ Steps labels v → RunsAlone v
