-- Tasks that wait for a copy (Component Model, CanonicalABI.md, `canon stream.{read,write}`, `canon future.{read,write}`, "Stream State" and "Future
-- State"): the end stands at its index in the table of the component instance whose function the task runs, and the copy under way there is the
-- task's own, by the canonical function in which it waits.
use Rattle.std.specs.Prelude.{◌≡◌, ℕ, false, List, Some}
use Rattle.std.specs.List.{slice_get}
use Rattle.stream_ends.specs.declared.open_copy.OpenCopy.{OpenCopy}
use Rattle.stream_ends.specs.Ends.{end_at}
use Rattle.comp_graph.specs.Graph.{Graph, Lifted}
use Rattle.script_reader.specs.Script.{Script}
use Rattle.trace_labels.specs.declared.label.Label.{Label}
use Rattle.abi_machine.specs.Control.{EndRef}
use Rattle.abi_machine.specs.World.{Inst, ForCopy, InBuiltin, Task, Channel, World, first_world}
use Rattle.abi_machine.specs.Canons.{options_at}
use Rattle.abi_machine.specs.Reading.{func_of}
use Rattle.abi_machine.specs.Copying.{task_by}
use Rattle.abi_machine.specs.Turn.{Steps}
use Rattle.abi_machine.specs.Next.{next}
use Rattle.abi_machine.specs.sound.Initial.{RunsAlone}
use Rattle.abi_machine.specs.sound.Tables.{HaveHistories}
use Rattle.abi_machine.specs.sound.Acting.{IsOrdered}
use Rattle.abi_machine.specs.sound.Owners.{IsApart, IsOwnWorld, IsControlOwn}
use Rattle.abi_machine.specs.sound.EndPlaces.{EndStandsAt, channel_in}
use Rattle.abi_machine.specs.sound.EndsPassed.{HostPassesNoEnd}

-- A task waits in this canonical function for the copy of the end at an index.
abbrev pub WaitsForCopy : Task → ℕ → ℕ → Type 0
WaitsForCopy task number index = (words : List ℕ) × (task.state ≡ InBuiltin number words (ForCopy index))

-- A copy is under way at an end.
abbrev pub IsUnderWay : List Channel → List Channel → EndRef → OpenCopy → Type 0
IsUnderWay streams futures e copy = (c : Channel) × (channel_in e.kind e.number streams futures ≡ Some c) × ((end_at e.side c.ends.view).copy ≡ Some copy)

-- At an index of the table of an instance stands an end with a copy of the task of this number, by this canonical function, which waits.
pub record AwaitsCopy (g : Graph) (insts : List Inst) (streams futures : List Channel) (t number index i : ℕ) : Type 0 where
  pub end : EndRef
  pub copy : OpenCopy
  pub stands : EndStandsAt insts i index end
  pub under : IsUnderWay streams futures end copy
  pub of_task : task_by copy.by ≡ t
  pub of_canon : copy.canon ≡ number
  pub waits : (options_at g number).is_async ≡ false

abbrev pub AwaitCopiesIn : Graph → List Task → List Inst → List Channel → List Channel → Type 0
AwaitCopiesIn g tasks insts streams futures =
    (t number index : ℕ) (task : Task) (f : Lifted) → slice_get tasks t ≡ Some task → func_of task.callee ≡ Some f → WaitsForCopy task number index
    → AwaitsCopy g insts streams futures t number index f.instance

abbrev pub AwaitCopies : Graph → World → Type 0
AwaitCopies g w = AwaitCopiesIn g w.tasks w.insts w.streams w.futures

-- So it is in the first world, and so it stays, where the script passes no end.
abbrev pub FirstAwaitsCopies : Type 0
FirstAwaitsCopies = (g : Graph) → AwaitCopies g (first_world g)

abbrev pub CopiesStayAwaited : Type 0
CopiesStayAwaited =
    (g : Graph) (s : Script) (w v : World) (labels : List Label) → IsApart g → RunsAlone w → IsOrdered w → HaveHistories w.insts → IsOwnWorld g w → IsControlOwn g w.control w → HostPassesNoEnd w.tasks
    → AwaitCopies g w → next g s w ≡ Steps labels v → AwaitCopies g v
