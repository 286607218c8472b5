-- Copies under way (Component Model, CanonicalABI.md, "Stream State" and "Future State", `canon stream.{read,write}`): the end of each stands in a table,
-- and the task that reads or writes is there, and so is the canonical function by which it does.
use Rattle.std.specs.Prelude.{◌≡◌, ℕ, List, Some, IsSome}
use Rattle.std.specs.List.{slice_get}
use Rattle.handle_table.specs.History.{live}
use Rattle.stream_ends.specs.declared.open_copy.OpenCopy.{OpenCopy}
use Rattle.stream_ends.specs.Ends.{end_at}
use Rattle.comp_graph.specs.Graph.{Graph}
use Rattle.script_reader.specs.Script.{Script}
use Rattle.trace_labels.specs.declared.label.Label.{Label}
use Rattle.abi_machine.specs.Control.{EndRef}
use Rattle.abi_machine.specs.World.{OfEnd, Inst, Task, Channel, World, first_world}
use Rattle.abi_machine.specs.Canons.{canon_at}
use Rattle.abi_machine.specs.Reading.{table_in}
use Rattle.abi_machine.specs.Copying.{task_by}
use Rattle.abi_machine.specs.Turn.{Steps}
use Rattle.abi_machine.specs.Next.{next}
use Rattle.abi_machine.specs.sound.Initial.{RunsAlone}
use Rattle.abi_machine.specs.sound.Tables.{HaveHistories}
use Rattle.abi_machine.specs.sound.Agreeing.{channel_in}

-- a copy at an end
pub record IsHeld (g : Graph) (tasks : List Task) (insts : List Inst) (e : EndRef) (copy : OpenCopy) : Type 0 where
  pub inst : ℕ
  pub index : ℕ
  pub held : live (table_in (slice_get insts inst)) index ≡ Some (OfEnd e)
  pub reads_or_writes : IsSome (slice_get tasks (task_by copy.by))
  pub called : IsSome (canon_at g copy.canon)

abbrev pub AreHeld : Graph → List Task → List Inst → List Channel → List Channel → Type 0
AreHeld g tasks insts streams futures =
    (e : EndRef) (c : Channel) (copy : OpenCopy) → channel_in e.kind e.number streams futures ≡ Some c → (end_at e.side c.ends.view).copy ≡ Some copy → IsHeld g tasks insts e copy

abbrev pub HoldsCopies : Graph → World → Type 0
HoldsCopies g w = AreHeld g w.tasks w.insts w.streams w.futures

-- So it is in the first world, and so it stays.
abbrev pub FirstHoldsCopies : Type 0
FirstHoldsCopies = (g : Graph) → HoldsCopies g (first_world g)

abbrev pub CopiesStayHeld : Type 0
CopiesStayHeld =
    (g : Graph) (s : Script) (w v : World) (labels : List Label) → RunsAlone w → HaveHistories w.insts → HoldsCopies g w → next g s w ≡ Steps labels v → HoldsCopies g v
