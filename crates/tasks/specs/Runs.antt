-- Whole runs of a task and of a subtask: events, requests to cancel and steps, one after the other, each of which happens
-- where it may and changes nothing elsewhere.
use Rattle.std.specs.Prelude.{ℕ, Bool, if◌then◌else◌, List, [], ◌∷◌, ◌++◌, Option, Some, None}
use Rattle.std.specs.Option.{option_to_list}
use Rattle.tasks.specs.declared.event.TaskEvent.{TaskEvent}
use Rattle.tasks.specs.declared.event.TaskTrap.{TaskTrap}
use Rattle.tasks.specs.declared.event.Asked.{Asked}
use Rattle.tasks.specs.declared.event.Asked.TheVariants.{Removed, ResumeNow, Pending}
use Rattle.tasks.specs.declared.phase.Resolution.{Resolution}
use Rattle.tasks.specs.declared.phase.Resolution.TheVariants.{Cancelled}
use Rattle.tasks.specs.Views.{TaskView, SubtaskView}
use Rattle.tasks.specs.Tasks.{may_happen, may_cancel, fault, advanced, cancel_case, cancelled}
use Rattle.tasks.specs.History.{resolves}
use Rattle.tasks.specs.Subtasks.{code_of, is_over, follows, has_event, raised, delivered, with_lend}
use Rattle.tasks.specs.SubtaskHistory.{Step, Rises, IsTold, Lends}

-- what is tried with a task
pub data Act : Type 0 where
  Event : TaskEvent → Act
  AskToCancel : (entry_free : Bool) → Act

abbrev pub happens : TaskView → Act → TaskView
happens t (Event e) = if may_happen e t then advanced e t else t
happens t (AskToCancel entry_free) = if may_cancel t then cancelled (cancel_case entry_free t) t else t

abbrev pub run : List Act → TaskView → TaskView
run [] t = t
run (act ∷ acts) t = run acts (happens t act)

abbrev pub unless_refused : Option TaskTrap → Option Resolution → Option Resolution
unless_refused None r = r
unless_refused (Some trap) r = None

abbrev pub removal : Asked → Option Resolution
removal Removed = Some Cancelled
removal ResumeNow = None
removal Pending = None

-- how an act resolves a task, if it does
abbrev pub resolved_by : TaskView → Act → Option Resolution
resolved_by t (Event e) = if may_happen e t then unless_refused (fault e t) (resolves e) else None
resolved_by t (AskToCancel entry_free) = if may_cancel t then removal (cancel_case entry_free t) else None

-- all resolutions in a run
abbrev pub resolved_in : List Act → TaskView → List Resolution
resolved_in [] t = []
resolved_in (act ∷ acts) t = option_to_list (resolved_by t act) ++ resolved_in acts (happens t act)

abbrev pub steps_to : SubtaskView → Step → SubtaskView
steps_to s (Rises state) = if follows s.state state then raised state s else s
steps_to s IsTold = if has_event s then delivered s else s
steps_to s (Lends handle) = if is_over s.state then s else with_lend handle s

abbrev pub subtask_run : List Step → SubtaskView → SubtaskView
subtask_run [] s = s
subtask_run (step ∷ steps) s = subtask_run steps (steps_to s step)

-- the payloads that a step tells
abbrev pub told_in : SubtaskView → Step → List ℕ
told_in s (Rises state) = []
told_in s IsTold = if has_event s then code_of s.state ∷ [] else []
told_in s (Lends handle) = []

-- all payloads that are told in a run
abbrev pub payloads : List Step → SubtaskView → List ℕ
payloads [] s = []
payloads (step ∷ steps) s = told_in s step ++ payloads steps (steps_to s step)

-- the handles that a step lends
abbrev pub lent_in : SubtaskView → Step → List ℕ
lent_in s (Rises state) = []
lent_in s IsTold = []
lent_in s (Lends handle) = if is_over s.state then [] else handle ∷ []

-- all handles that are lent in a run
abbrev pub all_lent : List Step → SubtaskView → List ℕ
all_lent [] s = []
all_lent (step ∷ steps) s = lent_in s step ++ all_lent steps (steps_to s step)
