-- Copies whose calls wait (Component Model, CanonicalABI.md, `canon stream.{read,write}`, `canon future.{read,write}`, "Stream State" and "Future State"):
-- in each world that a run reaches the task of one waits for it, by its canonical function, at the index at which its end stands. So the copy at an end
-- that stands in a table is waited for directly exactly where its call waits.
use Rattle.std.specs.Prelude.{◌≡◌, ℕ, not, false, List, Some, None}
use Rattle.std.specs.List.{slice_get}
use Rattle.stream_ends.specs.declared.open_copy.OpenCopy.{OpenCopy}
use Rattle.stream_ends.specs.Ends.{end_at}
use Rattle.comp_graph.specs.Graph.{Graph, Lifted}
use Rattle.script_reader.specs.Script.{Script}
use Rattle.trace_labels.specs.declared.label.Label.{Label}
use Rattle.abi_machine.specs.Control.{EndRef}
use Rattle.abi_machine.specs.World.{OfEnd, Inst, ForCopy, InBuiltin, Task, Channel, World, first_world}
use Rattle.abi_machine.specs.Canons.{options_at}
use Rattle.abi_machine.specs.Reading.{entry_at, func_of}
use Rattle.abi_machine.specs.Counting.{passes, end_of, is_waited_for}
use Rattle.abi_machine.specs.Copying.{task_by}
use Rattle.abi_machine.specs.Run.{Reaches}
use Rattle.abi_machine.specs.replies.Streams.{is_async_copy}
use Rattle.abi_machine.specs.sound.EndPlaces.{EndStandsAt, channel_in}
use Rattle.abi_machine.specs.sound.EndsPassed.{ScriptPassesNoEnd}
use Rattle.abi_machine.specs.sound.Owners.{IsApart}

-- The task of a copy at an end waits for it.
pub record HasWaiter (tasks : List Task) (insts : List Inst) (e : EndRef) (copy : OpenCopy) : Type 0 where
  pub task : Task
  pub func : Lifted
  pub words : List ℕ
  pub index : ℕ
  pub there : slice_get tasks (task_by copy.by) ≡ Some task
  pub runs : func_of task.callee ≡ Some func
  pub waits : task.state ≡ InBuiltin copy.canon words (ForCopy index)
  pub stands : EndStandsAt insts func.instance index e

abbrev pub HaveWaiters : Graph → List Task → List Inst → List Channel → List Channel → Type 0
HaveWaiters g tasks insts streams futures =
    (e : EndRef) (c : Channel) (copy : OpenCopy) → channel_in e.kind e.number streams futures ≡ Some c → (end_at e.side c.ends.view).copy ≡ Some copy → (options_at g copy.canon).is_async ≡ false
    → HasWaiter tasks insts e copy

pub record CopiesAreKnown (g : Graph) (w : World) : Type 0 where
  pub waiters : HaveWaiters g w.tasks w.insts w.streams w.futures
  pub waited : (at index : ℕ) (e : EndRef) → entry_at w at index ≡ Some (OfEnd e) → ((end_of w e).copy ≡ None → ⊥) → passes (is_async_copy g) (end_of w e).copy ≡ not (is_waited_for w at index)

abbrev pub ReachedCopiesAreKnown : Type 0
ReachedCopiesAreKnown = (g : Graph) (s : Script) (steps : List (List Label)) (w : World) → IsApart g → ScriptPassesNoEnd s → Reaches g s (first_world g) steps w → CopiesAreKnown g w
