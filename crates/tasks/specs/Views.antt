-- What a task and a subtask are at a time (Component Model, CanonicalABI.md, "Task State" and "Subtask State").
use Rattle.std.specs.Prelude.{ℕ, List, Option}
use Rattle.entry_gate.specs.declared.kind.Kind.{Kind}
use Rattle.tasks.specs.declared.phase.Caller.{Caller}
use Rattle.tasks.specs.declared.phase.Phase.{Phase}
use Rattle.tasks.specs.declared.phase.Resolution.{Resolution}
use Rattle.tasks.specs.declared.phase.Cancellation.{Cancellation}
use Rattle.tasks.specs.declared.subtask_state.SubtaskState.{SubtaskState}

pub record TaskView : Type 0 where
  pub kind : Kind
  pub caller : Caller
  pub phase : Phase
  pub resolution : Option Resolution
  pub cancellation : Cancellation
  -- the live borrow handles that were made for it
  pub borrows : ℕ

pub record SubtaskView : Type 0 where
  -- the task that was called
  pub callee : ℕ
  pub state : SubtaskState
  -- the state that the caller was told last
  pub told : SubtaskState
  -- the caller's handles that are lent for the call, by time
  pub lends : List ℕ
