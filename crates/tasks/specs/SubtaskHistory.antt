-- What happened to a subtask, and what a subtask is by that.
use Rattle.std.specs.Prelude.{◌≡◌, ℕ, true, if◌then◌else◌, List, [], ◌∷◌, ◌++◌}
use Rattle.tasks.specs.declared.subtask_state.SubtaskState.{SubtaskState}
use Rattle.tasks.specs.declared.subtask_state.SubtaskState.TheVariants.{Starting}
use Rattle.tasks.specs.Views.{SubtaskView}
use Rattle.tasks.specs.Subtasks.{is_over}

pub data Step : Type 0 where
  -- its state rises to this one
  Rises : SubtaskState → Step
  -- its caller is told its state
  IsTold : Step
  -- a handle is lent for it
  Lends : (handle : ℕ) → Step

-- the task that was called, and what happened since, the first first
pub record SubtaskHistory : Type 0 where
  pub callee : ℕ
  pub steps : List Step

abbrev pub and_step : Step → SubtaskHistory → SubtaskHistory
and_step step h = record h { steps = h.steps ++ step ∷ [] }

-- the state after these steps
abbrev pub state_by : SubtaskState → List Step → SubtaskState
state_by state [] = state
state_by state (Rises later ∷ steps) = state_by later steps
state_by state (IsTold ∷ steps) = state_by state steps
state_by state (Lends handle ∷ steps) = state_by state steps

-- the state that was told last, after these steps from a state and a told one
abbrev pub told_by : SubtaskState → SubtaskState → List Step → SubtaskState
told_by state told [] = told
told_by state told (Rises later ∷ steps) = told_by later told steps
told_by state told (IsTold ∷ steps) = told_by state state steps
told_by state told (Lends handle ∷ steps) = told_by state told steps

-- all handles that were lent
abbrev pub lent : List Step → List ℕ
lent [] = []
lent (Rises later ∷ steps) = lent steps
lent (IsTold ∷ steps) = lent steps
lent (Lends handle ∷ steps) = handle ∷ lent steps

-- A subtask is this after this history. What it lent is lent until its last state is told, which doesn't change then.
pub record SubtaskStandsFor (h : SubtaskHistory) (s : SubtaskView) : Type 0 where
  pub callee : s.callee ≡ h.callee
  pub state : s.state ≡ state_by Starting h.steps
  pub told : s.told ≡ told_by Starting Starting h.steps
  pub lends : s.lends ≡ (if is_over s.told then [] else lent h.steps)
  pub last : is_over s.told ≡ true → s.state ≡ s.told
