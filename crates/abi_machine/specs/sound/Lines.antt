-- What lines tell of tasks (Component Model, CanonicalABI.md, "Task State": `Task.enter`, `Task.return_`, `Task.cancel`, `Task.exit`): each task is made,
-- enters, returns or is cancelled, and exits, in this order, and each by one line; one that is cancelled may not have entered. Task 0, which
-- instantiates, is told by none.
use Rattle.std.specs.Prelude.{◌≡◌, ◌≤◌, ℕ, zero, suc, nat_eq, List, [], ◌∷◌, Option, Some, None, if◌then◌else◌}
use Rattle.std.specs.List.{slice_get}
use Rattle.tasks.specs.declared.phase.Resolution.{Resolution}
use Rattle.comp_graph.specs.Graph.{Graph}
use Rattle.script_reader.specs.Script.{Script}
use Rattle.trace_labels.specs.declared.label.Label.{Label}
use Rattle.trace_labels.specs.declared.label.Label.TheVariants as line
use Rattle.abi_machine.specs.World.{TaskState, New, WaitsToEnter, Exited, Task, World, first_world}
use Rattle.abi_machine.specs.Turn.{Steps}
use Rattle.abi_machine.specs.Next.{next}
use Rattle.abi_machine.specs.Run.{Reaches, lines_of}
use Rattle.abi_machine.specs.sound.Initial.{RunsAlone}

-- what a line tells of the task of a number
pub data Mark : Type 0 where
  Makes : ℕ → Mark
  Enters : ℕ → Mark
  Returns : ℕ → Mark
  IsCancelled : ℕ → Mark
  Exits : ℕ → Mark

abbrev pub with_exit : ℕ → List Mark → List Mark
with_exit zero marks = marks
with_exit (suc t) marks = Exits (suc t) ∷ marks

abbrev pub with_mark : Label → List Mark → List Mark
with_mark (line.Take call t name values) marks = Makes t ∷ marks
with_mark (line.Call caller t instance) marks = Makes t ∷ marks
with_mark (line.Enter t) marks = Enters t ∷ marks
with_mark (line.Return t value) marks = Returns t ∷ marks
with_mark (line.Cancelled t) marks = IsCancelled t ∷ marks
with_mark (line.Exit t) marks = with_exit t marks
with_mark other marks = marks

abbrev pub marks_of : List Label → List Mark
marks_of [] = []
marks_of (l ∷ labels) = with_mark l (marks_of labels)

-- how far a task is
pub data Stage : Type 0 where
  Unmade : Stage
  Made : Stage
  Entered : Stage
  Resolved : Stage
  Gone : Stage

abbrev pub by_resolution : Option Resolution → Stage
by_resolution None = Entered
by_resolution (Some resolution) = Resolved

abbrev pub stage_by : TaskState → Option Resolution → Stage
stage_by New resolution = Made
stage_by WaitsToEnter resolution = Made
stage_by Exited resolution = Gone
stage_by state resolution = by_resolution resolution

abbrev pub stage_of : Option Task → Stage
stage_of None = Unmade
stage_of (Some task) = stage_by task.state task.resolution

abbrev pub stage_at : World → ℕ → Stage
stage_at w t = stage_of (slice_get w.tasks t)

-- A mark goes on from the stage before it only.
abbrev pub made_from : Stage → Option Stage
made_from Unmade = Some Made
made_from stage = None

abbrev pub entered_from : Stage → Option Stage
entered_from Made = Some Entered
entered_from stage = None

abbrev pub returned_from : Stage → Option Stage
returned_from Entered = Some Resolved
returned_from stage = None

abbrev pub cancelled_from : Stage → Option Stage
cancelled_from Made = Some Resolved
cancelled_from Entered = Some Resolved
cancelled_from stage = None

abbrev pub exited_from : Stage → Option Stage
exited_from Resolved = Some Gone
exited_from stage = None

abbrev pub stage_behind : ℕ → Mark → Stage → Option Stage
stage_behind t (Makes n) stage = if nat_eq n t then made_from stage else Some stage
stage_behind t (Enters n) stage = if nat_eq n t then entered_from stage else Some stage
stage_behind t (Returns n) stage = if nat_eq n t then returned_from stage else Some stage
stage_behind t (IsCancelled n) stage = if nat_eq n t then cancelled_from stage else Some stage
stage_behind t (Exits n) stage = if nat_eq n t then exited_from stage else Some stage

abbrev pub once_behind : ℕ → Mark → Option Stage → Option Stage
once_behind t mark None = None
once_behind t mark (Some stage) = stage_behind t mark stage

abbrev pub stage_along : ℕ → List Mark → Option Stage → Option Stage
stage_along t [] stage = stage
stage_along t (mark ∷ marks) stage = stage_along t marks (once_behind t mark stage)

-- The lines of a step take each task, but task 0, from the stage before it to the one behind it.
abbrev pub LinesTellTasks : Type 0
LinesTellTasks =
    (g : Graph) (s : Script) (w v : World) (labels : List Label) → RunsAlone w → next g s w ≡ Steps labels v → (t : ℕ) → 1 ≤ t → stage_along t (marks_of labels) (Some (stage_at w t)) ≡ Some (stage_at v t)

-- So the lines of a run up to a world tell how far each is in it.
abbrev pub ReachedLinesTell : Type 0
ReachedLinesTell =
    (g : Graph) (s : Script) (steps : List (List Label)) (w : World) → Reaches g s (first_world g) steps w → (t : ℕ) → 1 ≤ t → stage_along t (marks_of (lines_of steps)) (Some Unmade) ≡ Some (stage_at w t)
