-- Calls of the script (Component Model, Concurrency.md, "Summary"): each that was taken made a task, which has it as its caller. Calls are counted
-- from 1.
use Rattle.std.specs.Prelude.{◌≡◌, ◌≤◌, ℕ, true, List}
use Rattle.comp_graph.specs.Graph.{Graph}
use Rattle.script_reader.specs.Script.{Script}
use Rattle.trace_labels.specs.declared.label.Label.{Label}
use Rattle.abi_machine.specs.World.{Task, World, first_world}
use Rattle.abi_machine.specs.Turn.{Steps}
use Rattle.abi_machine.specs.Scheduling.{calls_taken, is_call_of}
use Rattle.abi_machine.specs.Next.{next}
use Rattle.abi_machine.specs.sound.Firsts.{TaskIs}
use Rattle.abi_machine.specs.sound.Initial.{RunsAlone}

-- The call of a number made a task.
abbrev pub IsOfCall : ℕ → Task → Type 0
IsOfCall call task = is_call_of call task.caller ≡ true

abbrev pub MadeTask : List Task → ℕ → Type 0
MadeTask tasks call = (t : ℕ) × TaskIs tasks t (IsOfCall call)

abbrev pub CallsHaveTasks : Script → World → Type 0
CallsHaveTasks s w = (call : ℕ) → 1 ≤ call → call ≤ calls_taken s w → MadeTask w.tasks call

-- So it is in the first world, and so it stays.
abbrev pub FirstCallsHaveTasks : Type 0
FirstCallsHaveTasks = (g : Graph) (s : Script) → CallsHaveTasks s (first_world g)

abbrev pub CallsKeepTasks : Type 0
CallsKeepTasks = (g : Graph) (s : Script) (w v : World) (labels : List Label) → RunsAlone w → CallsHaveTasks s w → next g s w ≡ Steps labels v → CallsHaveTasks s v
