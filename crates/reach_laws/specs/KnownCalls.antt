-- Tasks that call tasks (Component Model, CanonicalABI.md, `canon lower`, `canon subtask.cancel`, "Subtask State"; Concurrency.md, "Summary"): a subtask
-- that stands in the table of a component instance was called by a task that runs a function of that instance. A task that another one called runs in
-- another component instance than that one. And a task that cancels another one cancels one that was called from its own component instance.
use Rattle.std.specs.Prelude.{◌≡◌, ℕ, true, false, List, Some}
use Rattle.std.specs.List.{slice_get}
use Rattle.comp_graph.specs.Graph.{Graph, Lifted}
use Rattle.script_reader.specs.Script.{Script}
use Rattle.trace_labels.specs.declared.label.Label.{Label}
use Rattle.abi_machine.specs.World.{Inst, Subtask, AfterCancel, Task, World, first_world}
use Rattle.abi_machine.specs.Reading.{func_of, runs_in, subtask_of}
use Rattle.abi_machine.specs.Run.{Reaches}
use Rattle.abi_machine.specs.sound.Firsts.{TaskIs}
use Rattle.abi_machine.specs.sound.Owners.{IsApart}
use Rattle.abi_machine.specs.sound.Subtasks.{StandsAt, CallIs}

-- The task that calls runs a function of this component instance; or it does not.
abbrev pub IsFrom : List Task → ℕ → Subtask → Type 0
IsFrom tasks at subtask = TaskIs tasks subtask.by (λ x. runs_in at x ≡ true)

abbrev pub IsNotFrom : List Task → ℕ → Subtask → Type 0
IsNotFrom tasks at subtask = TaskIs tasks subtask.by (λ x. runs_in at x ≡ false)

pub record CallsKnown (tasks : List Task) (insts : List Inst) : Type 0 where
  pub inside : (at index callee : ℕ) → StandsAt insts at index callee → CallIs tasks callee (IsFrom tasks at)
  pub leaves : (callee : ℕ) (task : Task) (subtask : Subtask) (f : Lifted) → slice_get tasks callee ≡ Some task → subtask_of task.caller ≡ Some subtask → func_of task.callee ≡ Some f
      → IsNotFrom tasks f.instance subtask
  pub cancels : (t callee number : ℕ) (words : List ℕ) (task : Task) (f : Lifted) → slice_get tasks t ≡ Some task → func_of task.callee ≡ Some f → task.state ≡ AfterCancel callee number words
      → CallIs tasks callee (IsFrom tasks f.instance)

abbrev pub CallsAreKnown : World → Type 0
CallsAreKnown w = CallsKnown w.tasks w.insts

abbrev pub ReachedCallsAreKnown : Type 0
ReachedCallsAreKnown = (g : Graph) (s : Script) (steps : List (List Label)) (w : World) → IsApart g → Reaches g s (first_world g) steps w → CallsAreKnown w
