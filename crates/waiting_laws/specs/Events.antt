-- Events of subtasks (Component Model, CanonicalABI.md, "Waitable Set State", "Subtask State"): where the event of a member of a set comes to a task, by a
-- line with the code of subtasks, the subtask stands at the index of this line in the table of the component instance whose function the task runs. The
-- payload is the state that the subtask has, a higher one than the one that was told last; and behind the step it is the one that was told last.
use Rattle.std.specs.Prelude.{◌≡◌, ◌<◌, ℕ, List, ◌∷◌, Option, Some}
use Rattle.std.specs.List.{slice_get}
use Rattle.tasks.specs.declared.subtask_state.SubtaskState.{SubtaskState}
use Rattle.tasks.specs.Subtasks.{code_of}
use Rattle.comp_graph.specs.Graph.{Graph, Lifted}
use Rattle.script_reader.specs.Script.{Script}
use Rattle.trace_labels.specs.declared.label.Label.{Label}
use Rattle.trace_labels.specs.declared.label.Label.TheVariants as line
use Rattle.abi_machine.specs.Control.{SubtaskEvent, Receiver, Delivers}
use Rattle.abi_machine.specs.World.{OfSubtask, Task, World, first_world}
use Rattle.abi_machine.specs.Reading.{entry_at, func_of}
use Rattle.abi_machine.specs.Counting.{subtask_state}
use Rattle.abi_machine.specs.Delivering.{number_of}
use Rattle.abi_machine.specs.Turn.{Steps}
use Rattle.abi_machine.specs.Next.{next}
use Rattle.abi_machine.specs.Run.{Reaches}
use Rattle.abi_machine.specs.sound.Firsts.{TaskIs}
use Rattle.abi_machine.specs.sound.Subtasks.{CallIs}
use Rattle.abi_machine.specs.sound.Cancels.{IsOver}

pub record TellsNews (w v : World) (t index payload : ℕ) : Type 0 where
  pub task : Task
  pub func : Lifted
  pub there : slice_get w.tasks t ≡ Some task
  pub runs : func_of task.callee ≡ Some func
  pub callee : ℕ
  pub stands : entry_at w func.instance index ≡ Some (OfSubtask callee)
  pub state : SubtaskState
  pub has : TaskIs w.tasks callee (λ x. subtask_state x ≡ state)
  pub is : payload ≡ code_of state
  pub before : CallIs w.tasks callee (λ subtask. code_of subtask.told < code_of state)
  pub behind : CallIs v.tasks callee (λ subtask. subtask.told ≡ state)

-- The line of an event comes first in its step.
abbrev pub EventsTellNews : Type 0
EventsTellNews =
    (g : Graph) (s : Script) (steps : List (List Label)) (w v : World) (labels more : List Label) (set : ℕ) (receiver : Receiver) (pick : Option ℕ)
    (t index payload : ℕ) → Reaches g s (first_world g) steps w → w.control ≡ Delivers set receiver pick → next g s w ≡ Steps labels v
    → labels ≡ line.Event t (number_of SubtaskEvent) index payload ∷ more → TellsNews w v t index payload

-- Once the caller of a task was told that it has resolved no event comes of that subtask.
abbrev pub NoEventComesBehind : Type 0
NoEventComesBehind =
    (g : Graph) (s : Script) (steps later : List (List Label)) (w x y : World) (labels more : List Label) (set : ℕ) (receiver : Receiver) (pick : Option ℕ)
    (t index payload callee : ℕ) (task : Task) (f : Lifted) → Reaches g s (first_world g) steps w → CallIs w.tasks callee IsOver → Reaches g s w later x
    → x.control ≡ Delivers set receiver pick → next g s x ≡ Steps labels y → labels ≡ line.Event t (number_of SubtaskEvent) index payload ∷ more
    → slice_get x.tasks t ≡ Some task → func_of task.callee ≡ Some f → entry_at x f.instance index ≡ Some (OfSubtask callee) → ⊥
