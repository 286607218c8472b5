-- Tasks that have entered (Component Model, CanonicalABI.md, "Task State": `Task.enter`; `lower_borrow`, `canon lower`; "Stream State" and "Future
-- State"): each one that a live borrow handle names, that called another one, or that reads or writes by a copy under way.
use Rattle.std.specs.Prelude.{◌≡◌, ℕ, List, Some}
use Rattle.std.specs.List.{slice_get, AllByRecursion}
use Rattle.handle_table.specs.History.{live}
use Rattle.stream_ends.specs.declared.open_copy.OpenCopy.{OpenCopy}
use Rattle.stream_ends.specs.Ends.{end_at}
use Rattle.abi_machine.specs.Control.{EndRef}
use Rattle.abi_machine.specs.World.{Entry, OwnHandle, BorrowHandle, OfSubtask, OfSet, OfEnd, Inst, Caller, Nobody, Host, Guest, Task, Channel, World}
use Rattle.abi_machine.specs.Reading.{table_in}
use Rattle.abi_machine.specs.Copying.{task_by}
use Rattle.abi_machine.specs.sound.Agreeing.{channel_in}
use Rattle.abi_machine.specs.sound.Entering.{HasEntered}

abbrev pub NamesEntered : List Task → Entry → Type 0
NamesEntered tasks (OwnHandle resource rep) = Unit {0}
NamesEntered tasks (BorrowHandle resource rep task) = HasEntered tasks task
NamesEntered tasks (OfSubtask callee) = Unit {0}
NamesEntered tasks (OfSet set) = Unit {0}
NamesEntered tasks (OfEnd e) = Unit {0}

abbrev pub IsByEntered : List Task → Caller → Type 0
IsByEntered tasks Nobody = Unit {0}
IsByEntered tasks (Host call values) = Unit {0}
IsByEntered tasks (Guest subtask) = HasEntered tasks subtask.by

pub record AreEntered (tasks : List Task) (insts : List Inst) (streams futures : List Channel) : Type 0 where
  pub borrows : (i index : ℕ) (entry : Entry) → live (table_in (slice_get insts i)) index ≡ Some entry → NamesEntered tasks entry
  pub callers : AllByRecursion (λ task. IsByEntered tasks task.caller) tasks
  pub copies : (e : EndRef) (c : Channel) (copy : OpenCopy) → channel_in e.kind e.number streams futures ≡ Some c → (end_at e.side c.ends.view).copy ≡ Some copy → HasEntered tasks (task_by copy.by)

abbrev pub HaveEntered : World → Type 0
HaveEntered w = AreEntered w.tasks w.insts w.streams w.futures
