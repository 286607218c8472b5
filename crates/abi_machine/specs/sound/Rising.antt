-- What callers are told (Component Model, CanonicalABI.md, "Subtask State"; Concurrency.md, "Waitables and Waitable Sets"): the state of a subtask that its
-- caller was told last rises from step to step, and stays once it says that the task has resolved; and a subtask stays in its table until its
-- caller was told that.
use Rattle.std.specs.Prelude.{◌≡◌, ◌≤◌, ◌⊎◌, ℕ, true, List}
use Rattle.tasks.specs.declared.subtask_state.SubtaskState.{SubtaskState}
use Rattle.tasks.specs.Subtasks.{code_of, is_over}
use Rattle.comp_graph.specs.Graph.{Graph}
use Rattle.script_reader.specs.Script.{Script}
use Rattle.trace_labels.specs.declared.label.Label.{Label}
use Rattle.abi_machine.specs.World.{Subtask, World}
use Rattle.abi_machine.specs.Turn.{Steps}
use Rattle.abi_machine.specs.Next.{next}
use Rattle.abi_machine.specs.sound.Initial.{RunsAlone}
use Rattle.abi_machine.specs.sound.Tables.{HaveHistories}
use Rattle.abi_machine.specs.sound.Told.{AreTold}
use Rattle.abi_machine.specs.sound.Subtasks.{StandsAt, CallIs}
use Rattle.abi_machine.specs.sound.Cancels.{IsOver}

-- what was told behind this state
pub record IsToldBehind (state : SubtaskState) (subtask : Subtask) : Type 0 where
  pub rises : code_of state ≤ code_of subtask.told
  pub stays : is_over state ≡ true → subtask.told ≡ state

abbrev pub StatesRise : Type 0
StatesRise =
    (g : Graph) (s : Script) (w v : World) (labels : List Label) → RunsAlone w → AreTold w.tasks → next g s w ≡ Steps labels v → (t : ℕ) (state : SubtaskState) → CallIs w.tasks t (λ subtask. subtask.told ≡ state)
    → CallIs v.tasks t (IsToldBehind state)

abbrev pub SubtasksStayUntold : Type 0
SubtasksStayUntold =
    (g : Graph) (s : Script) (w v : World) (labels : List Label) → RunsAlone w → HaveHistories w.insts → AreTold w.tasks → next g s w ≡ Steps labels v → (i index callee : ℕ) → StandsAt w.insts i index callee
    → CallIs v.tasks callee IsOver ⊎ StandsAt v.insts i index callee
