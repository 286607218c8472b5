-- How far each task is (Component Model, CanonicalABI.md, "Task State"; Concurrency.md, "Summary"): in each world that a run reaches the lines up to it tell
-- which tasks are there, which have entered, which have exited, and what each resolved to. So where a run is done each task that a line makes has exited by a
-- line, and where it ends in deadlock those are named, but for task 0, that lines make and none lets exit.
use Rattle.std.specs.Prelude.{◌≡◌, ◌≤◌, ℕ, suc, List, [], ◌∷◌, ◌++◌, length, Option, Some, None}
use Rattle.std.specs.List.{slice_get, flat_map}
use Rattle.tasks.specs.declared.phase.Resolution.{Resolution}
use Rattle.tasks.specs.declared.phase.Resolution.TheVariants.{Returned, Cancelled}
use Rattle.comp_graph.specs.Graph.{Graph}
use Rattle.script_reader.specs.Script.{Script}
use Rattle.trace_labels.specs.declared.label.Label.{Label}
use Rattle.trace_labels.specs.declared.label.Label.TheVariants as line
use Rattle.abi_machine.specs.declared.run_end.RunEnd.TheVariants.{Done, Deadlock}
use Rattle.abi_machine.specs.World.{TaskState, New, WaitsToEnter, Exited, Task, World, first_world}
use Rattle.abi_machine.specs.Run.{Reaches, Runs, lines_of}
use Rattle.task_laws.specs.TaskLines.{Milestone, IsMade, Returns, IsCancelled, Exits, milestone_by, told_of}

-- what was told last, and what lines tell that a task resolved to
abbrev pub last_of : Option Milestone → List Milestone → Option Milestone
last_of last [] = last
last_of last (m ∷ more) = last_of (Some m) more

abbrev pub resolved_by : Option Resolution → List Milestone → Option Resolution
resolved_by resolution [] = resolution
resolved_by resolution (Returns ∷ more) = resolved_by (Some Returned) more
resolved_by resolution (IsCancelled ∷ more) = resolved_by (Some Cancelled) more
resolved_by resolution (other ∷ more) = resolved_by resolution more

-- A task has not entered; it has entered and not exited.
abbrev pub IsOutside : TaskState → Type 0
IsOutside New = Unit {0}
IsOutside WaitsToEnter = Unit {0}
IsOutside state = ⊥

abbrev pub IsWithin : TaskState → Type 0
IsWithin New = ⊥
IsWithin WaitsToEnter = ⊥
IsWithin Exited = ⊥
IsWithin state = Unit {0}

-- So far is a task of which this was told last.
abbrev pub IsSoFar : Milestone → TaskState → Type 0
IsSoFar IsMade state = IsOutside state
IsSoFar Exits state = state ≡ Exited
IsSoFar other state = IsWithin state

-- A task is as lines tell of it; and there is none where they tell nothing.
pub record IsAsTold (told : List Milestone) (task : Task) : Type 0 where
  pub last : Milestone
  pub is_last : last_of None told ≡ Some last
  pub so_far : IsSoFar last task.state
  pub resolution : task.resolution ≡ resolved_by None told

abbrev pub MayBeAsTold : List Milestone → Option Task → Type 0
MayBeAsTold told None = told ≡ []
MayBeAsTold told (Some task) = IsAsTold told task

abbrev pub TasksAreAsTold : Type 0
TasksAreAsTold =
    (g : Graph) (s : Script) (steps : List (List Label)) (w : World) → Reaches g s (first_world g) steps w → (t : ℕ) → 1 ≤ t → MayBeAsTold (told_of t (lines_of steps)) (slice_get w.tasks t)

-- The tasks that lines make, in their order; and numbers that are counted from this one on.
abbrev pub made_by : Milestone → ℕ → List ℕ
made_by IsMade t = t ∷ []
made_by other t = []

abbrev pub if_made : Option (ℕ × Milestone) → List ℕ
if_made None = []
if_made (Some told) = made_by told.1 told.0

abbrev pub tasks_made : List Label → List ℕ
tasks_made labels = flat_map (λ l. if_made (milestone_by l)) labels

abbrev pub AreCounted : ℕ → List ℕ → Type 0
AreCounted n [] = Unit {0}
AreCounted n (t ∷ more) = (t ≡ n) × AreCounted (suc n) more

-- The lines of a run make task 1, task 2 and so on, up to the last one that is there.
abbrev pub TasksAreCounted : Type 0
TasksAreCounted =
    (g : Graph) (s : Script) (steps : List (List Label)) (w : World) → Reaches g s (first_world g) steps w → AreCounted 1 (tasks_made (lines_of steps)) × (length w.tasks ≡ suc (length (tasks_made (lines_of steps))))

-- Behind its `exit` line nothing more of these is told of a task.
abbrev pub ExitsAreLast : Type 0
ExitsAreLast =
    (g : Graph) (s : Script) (steps : List (List Label)) (w : World) → Reaches g s (first_world g) steps w → (t : ℕ) → 1 ≤ t → (before behind : List Label)
    → lines_of steps ≡ before ++ line.Exit t ∷ behind → told_of t behind ≡ []

-- Lines tell that a task was made, and none that it exited; a number is one of these.
abbrev pub IsLeft : List Milestone → Type 0
IsLeft told = (last : Milestone) × (last_of None told ≡ Some last) × (last ≡ Exits → ⊥)

abbrev pub IsAmong : ℕ → List ℕ → Type 0
IsAmong t numbers = (place : ℕ) × (slice_get numbers place ≡ Some t)

abbrev pub NoneIsLeft : Type 0
NoneIsLeft = (g : Graph) (s : Script) (labels : List Label) (last : World) → Runs g s labels last Done → (t : ℕ) → 1 ≤ t → IsLeft (told_of t labels) → ⊥

pub record NamesLeft (named : List ℕ) (labels : List Label) : Type 0 where
  pub left : (t : ℕ) → 1 ≤ t → IsAmong t named → IsLeft (told_of t labels)
  pub are_named : (t : ℕ) → 1 ≤ t → IsLeft (told_of t labels) → IsAmong t named

abbrev pub DeadlocksNameLeft : Type 0
DeadlocksNameLeft = (g : Graph) (s : Script) (labels : List Label) (last : World) (named : List ℕ) → Runs g s labels last (Deadlock named) → NamesLeft named labels
