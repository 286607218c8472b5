-- The order of what a task does (Component Model, CanonicalABI.md, "Task State": `Task.enter`, `Task.return_`, `Task.cancel`, `Task.exit`): it is made,
-- enters, resolves and exits, and goes back to none of these. It stays the task of its number: what it runs, who called it, with what and by which
-- canonical function; and what it resolved to stays.
use Rattle.std.specs.Prelude.{◌≡◌, ℕ, List, Some, IsSome}
use Rattle.std.specs.List.{slice_get}
use Rattle.comp_graph.specs.Graph.{Graph}
use Rattle.script_reader.specs.Script.{Script}
use Rattle.trace_labels.specs.declared.label.Label.{Label}
use Rattle.abi_machine.specs.World.{Subtask, Caller, Nobody, Host, Guest, Task, World}
use Rattle.abi_machine.specs.Turn.{Steps}
use Rattle.abi_machine.specs.Next.{next}
use Rattle.abi_machine.specs.sound.Initial.{RunsAlone}
use Rattle.abi_machine.specs.sound.Acting.{IsOrdered}
use Rattle.abi_machine.specs.sound.Entering.{IsBehindEntry}
use Rattle.abi_machine.specs.sound.Exiting.{HasExited}
use Rattle.abi_machine.specs.sound.Firsts.{TaskIs}

-- a caller, and what it is in a later world: what its side of the call says more may change
abbrev pub IsSameCaller : Caller → Caller → Type 0
IsSameCaller Nobody later = later ≡ Nobody
IsSameCaller (Host call values) later = later ≡ Host call values
IsSameCaller (Guest subtask) later = (x : Subtask) × (later ≡ Guest x) × (x.by ≡ subtask.by) × (x.canon ≡ subtask.canon) × (x.words ≡ subtask.words)

-- a task, and what it is in a later world
pub record GoesOnAs (task later : Task) : Type 0 where
  pub callee : later.callee ≡ task.callee
  pub caller : IsSameCaller task.caller later.caller
  pub entered : IsBehindEntry task → IsBehindEntry later
  pub resolved : IsSome task.resolution → later.resolution ≡ task.resolution
  pub exited : HasExited task.state → HasExited later.state

abbrev pub TasksGoOn : Type 0
TasksGoOn =
    (g : Graph) (s : Script) (w v : World) (labels : List Label) → RunsAlone w → IsOrdered w → next g s w ≡ Steps labels v → (t : ℕ) (task : Task) → slice_get w.tasks t ≡ Some task
    → TaskIs v.tasks t (GoesOnAs task)
