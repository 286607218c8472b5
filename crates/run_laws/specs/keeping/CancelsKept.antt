-- What is asked of subtasks that are cancelled, where what is kept stands for a world of which laws of reached worlds hold (Component Model, CanonicalABI.md, `canon
-- subtask.cancel`, "Subtask State").
use Rattle.std.specs.Prelude.{◌≡◌, ℕ, true, List, Some}
use Rattle.std.specs.List.{slice_get}
use Rattle.syntax_trees.specs.declared.types.ValType.{ValType}
use Rattle.wasm_store.specs.Stack.{Stack}
use Rattle.comp_graph.specs.Graph.{Graph}
use Rattle.script_reader.specs.Script.{Script}
use Rattle.instances.specs.declared.entry.WorldEntry.TheVariants as entry
use Rattle.instances.specs.Instances.{InstanceView, entry_of}
use Rattle.task_table.specs.declared.errand.Errand.TheVariants as errand
use Rattle.task_table.specs.declared.slot.TaskSlot.{TaskSlot}
use Rattle.world_parts.specs.Held.{Held}
use Rattle.abi_machine.specs.World.{World}
use Rattle.abi_machine.specs.sound.Cancels.{HasCancels}
use Rattle.abi_machine.specs.sound.CopyWaits.{AwaitCopies}
use Rattle.abi_machine.specs.sound.Subtasks.{HasSubtasks}
use Rattle.standing.specs.Stands.{Stands}
use Rattle.standing.specs.KeptMarks.{runs_func, HasMarks}
use Rattle.run_laws.specs.keeping.Cancels.{StandsOnly, CancelsThere, OneWaits}
use Rattle.run_laws.specs.keeping.Well.{CancelsApart, KeptWell}

-- One that a task cancels is called by none whose control has yet to come back, and stands at the index by which it is cancelled, and nowhere else, while it has
-- not resolved. Where a subtask stands one task at most waits directly, and it stands nowhere else.
pub record CancelsKept (h : Held) : Type 0 where
  pub apart : CancelsApart h
  pub back : (t callee canon index : ℕ) (slot : TaskSlot) → slice_get h.tasks t ≡ Some slot → slot.errand ≡ errand.AfterCancel callee canon index
      → runs_func slot.callee ≡ true → CancelsThere h t slot.instance callee index
  pub alone : (at index callee : ℕ) (i : InstanceView) → slice_get h.instances at ≡ Some i → entry_of i index ≡ Some (entry.Subtask callee)
      → OneWaits h at index × StandsOnly h at index callee

abbrev pub CancelsAreKept : Type 0
CancelsAreKept =
    (g : Graph) (values : List ValType) (s : Script) (h : Held) (stacks : List (List Stack)) (w : World) → Stands g values s h stacks w → HasSubtasks g w → HasCancels w → AwaitCopies g w
    → HasMarks h → KeptWell h → CancelsKept h
