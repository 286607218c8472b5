-- The lines of a task (Component Model, CanonicalABI.md, "Task State": `Task.enter`, `Task.return_`, `Task.cancel`, `Task.exit`): it is made, enters,
-- returns or is cancelled, and exits, in this order, and each of them by one line; one that is cancelled may not have entered. This is said of the
-- lines of a run up to any world that it reaches. Task 0, which instantiates, has no such line.
use Rattle.std.specs.Prelude.{◌≤◌, ℕ, nat_eq, Bool, true, false, List, [], ◌∷◌, length, filter, Option, Some, None, if◌then◌else◌}
use Rattle.std.specs.List.{flat_map}
use Rattle.comp_graph.specs.Graph.{Graph}
use Rattle.script_reader.specs.Script.{Script}
use Rattle.trace_labels.specs.declared.label.Label.{Label}
use Rattle.trace_labels.specs.declared.label.Label.TheVariants as line
use Rattle.abi_machine.specs.declared.run_end.RunEnd.{RunEnd}
use Rattle.abi_machine.specs.World.{World, first_world}
use Rattle.abi_machine.specs.Run.{Reaches, Runs, lines_of}

-- what a line may tell of a task
pub data Milestone : Type 0 where
  IsMade : Milestone
  Enters : Milestone
  Returns : Milestone
  IsCancelled : Milestone
  Exits : Milestone

-- what a line tells, with the number of the task
abbrev pub milestone_by : Label → Option (ℕ × Milestone)
milestone_by (line.Take call t name arguments) = Some (t, IsMade)
milestone_by (line.Call caller t instance) = Some (t, IsMade)
milestone_by (line.Enter t) = Some (t, Enters)
milestone_by (line.Return t value) = Some (t, Returns)
milestone_by (line.Cancelled t) = Some (t, IsCancelled)
milestone_by (line.Exit t) = Some (t, Exits)
milestone_by other = None

-- what lines tell of the task of this number, in their order
abbrev pub if_of : ℕ → Option (ℕ × Milestone) → List Milestone
if_of t None = []
if_of t (Some told) = if nat_eq told.0 t then told.1 ∷ [] else []

abbrev pub told_of : ℕ → List Label → List Milestone
told_of t labels = flat_map (λ l. if_of t (milestone_by l)) labels

-- Behind what was told last this may be told next: each stands right behind the one before it, and none is left out, but that a task which is
-- cancelled may not have entered.
abbrev pub MayFollow : Option Milestone → Milestone → Type 0
MayFollow None IsMade = Unit {0}
MayFollow (Some IsMade) Enters = Unit {0}
MayFollow (Some Enters) Returns = Unit {0}
MayFollow (Some Enters) IsCancelled = Unit {0}
MayFollow (Some IsMade) IsCancelled = Unit {0}
MayFollow (Some Returns) Exits = Unit {0}
MayFollow (Some IsCancelled) Exits = Unit {0}
MayFollow last next = ⊥

abbrev pub AreInOrder : Option Milestone → List Milestone → Type 0
AreInOrder last [] = Unit {0}
AreInOrder last (next ∷ more) = MayFollow last next × AreInOrder (Some next) more

abbrev pub LinesAreInOrder : Type 0
LinesAreInOrder =
    (g : Graph) (s : Script) (steps : List (List Label)) (w : World) → Reaches g s (first_world g) steps w → (t : ℕ) → 1 ≤ t → AreInOrder None (told_of t (lines_of steps))

-- So it is of the lines of a run as a whole.
abbrev pub RunsAreInOrder : Type 0
RunsAreInOrder = (g : Graph) (s : Script) (labels : List Label) (last : World) (end : RunEnd) → Runs g s labels last end → (t : ℕ) → 1 ≤ t → AreInOrder None (told_of t labels)

-- Each at most once.
abbrev pub is_making : Milestone → Bool
is_making IsMade = true
is_making other = false

abbrev pub is_entry : Milestone → Bool
is_entry Enters = true
is_entry other = false

abbrev pub is_resolution : Milestone → Bool
is_resolution Returns = true
is_resolution IsCancelled = true
is_resolution other = false

abbrev pub is_exit : Milestone → Bool
is_exit Exits = true
is_exit other = false

-- how often lines tell this of a task
abbrev pub how_often : (Milestone → Bool) → ℕ → List Label → ℕ
how_often test t labels = length (filter test (told_of t labels))

pub record IsToldOnce (t : ℕ) (labels : List Label) : Type 0 where
  pub made : how_often is_making t labels ≤ 1
  pub entered : how_often is_entry t labels ≤ 1
  pub resolved : how_often is_resolution t labels ≤ 1
  pub exited : how_often is_exit t labels ≤ 1

abbrev pub EachIsToldOnce : Type 0
EachIsToldOnce = (g : Graph) (s : Script) (steps : List (List Label)) (w : World) → Reaches g s (first_world g) steps w → (t : ℕ) → 1 ≤ t → IsToldOnce t (lines_of steps)
