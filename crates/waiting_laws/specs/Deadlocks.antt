-- Deadlocks (Component Model, Concurrency.md, "Summary"): where a run ends in deadlock no task runs, and no item of the script is left. The line of the
-- deadlock, the last one of the run, names exactly the tasks that have not exited, at least one, by rising number. None is able to go on: each is blocked,
-- and what it waits for is missing, as `Missing` says.
use Rattle.std.specs.Prelude.{◌≡◌, ◌≤◌, ◌+◌, ℕ, false, List, [], ◌∷◌, Some, None}
use Rattle.std.specs.List.{slice_get}
use Rattle.comp_graph.specs.Graph.{Graph, Lifted}
use Rattle.script_reader.specs.Script.{Script}
use Rattle.trace_labels.specs.declared.label.Label.{Label}
use Rattle.abi_machine.specs.declared.run_end.RunEnd.TheVariants.{Deadlock}
use Rattle.abi_machine.specs.World.{Task, World}
use Rattle.abi_machine.specs.Reading.{func_of, has_exited}
use Rattle.abi_machine.specs.Scheduling.{is_able}
use Rattle.abi_machine.specs.Run.{Runs}
use Rattle.abi_machine.specs.sound.Owners.{IsApart}
use Rattle.abi_machine.specs.sound.EndsPassed.{ScriptPassesNoEnd}
use Rattle.waiting_laws.specs.Missing.{IsNamed, WaitsInVain}

-- Numbers rise, from this one on.
abbrev pub RiseFrom : ℕ → List ℕ → Type 0
RiseFrom n [] = Unit {0}
RiseFrom n (t ∷ later) = (n ≤ t) × RiseFrom (t + 1) later

-- A task is there that has not exited.
abbrev pub IsUnfinished : World → ℕ → Type 0
IsUnfinished w t = (task : Task) × (slice_get w.tasks t ≡ Some task) × (has_exited task.state ≡ false)

-- A task runs a function, and is blocked; what it waits for is missing.
pub record IsStuck (g : Graph) (w : World) (named : List ℕ) (t : ℕ) : Type 0 where
  pub task : Task
  pub there : slice_get w.tasks t ≡ Some task
  pub func : Lifted
  pub runs : func_of task.callee ≡ Some func
  pub in_vain : WaitsInVain g w named func.instance t task task.state

pub record IsDeadlocked (g : Graph) (s : Script) (w : World) (named : List ℕ) : Type 0 where
  pub idle : w.chain ≡ []
  pub no_item : slice_get s.items w.taken ≡ None
  pub some : named ≡ [] → ⊥
  pub rises : RiseFrom 0 named
  pub unfinished : (t : ℕ) → IsNamed t named → IsUnfinished w t
  pub all : (t : ℕ) → IsUnfinished w t → IsNamed t named
  pub unable : (t : ℕ) (task : Task) → slice_get w.tasks t ≡ Some task → is_able g w task ≡ false
  pub each : (t : ℕ) → IsNamed t named → IsStuck g w named t

-- A run that ends so: its line is `Deadlock named`.
abbrev pub DeadlocksAreInVain : Type 0
DeadlocksAreInVain =
    (g : Graph) (s : Script) (labels : List Label) (last : World) (named : List ℕ) → IsApart g → ScriptPassesNoEnd s
    → Runs g s labels last (Deadlock named) → IsDeadlocked g s last named
