-- What numbers name (Component Model, CanonicalABI.md, "Task State", "Subtask State" and "Waitable Set State"): tasks by the tasks that called
-- them, tasks of the chain, and subtasks and sets of tables.
use Rattle.std.specs.Prelude.{◌≡◌, ◌<◌, ℕ, zero, suc, List, length, Some, IsSome}
use Rattle.std.specs.List.{slice_get, AllByRecursion}
use Rattle.handle_table.specs.History.{live}
use Rattle.comp_graph.specs.Graph.{Graph}
use Rattle.script_reader.specs.Script.{Script}
use Rattle.trace_labels.specs.declared.label.Label.{Label}
use Rattle.abi_machine.specs.World.{Entry, OwnHandle, BorrowHandle, OfSubtask, OfSet, OfEnd, Inst, Init, Caller, Nobody, Host, Guest, Task, World, first_world}
use Rattle.abi_machine.specs.Reading.{func_of}
use Rattle.abi_machine.specs.Turn.{Steps}
use Rattle.abi_machine.specs.Next.{next}
use Rattle.abi_machine.specs.sound.Initial.{RunsAlone}
use Rattle.abi_machine.specs.sound.Changes.{IsGuest}

-- The script called a task, or one that was made before it.
abbrev pub IsCallerBefore : ℕ → Caller → Type 0
IsCallerBefore n Nobody = ⊥
IsCallerBefore n (Host call values) = Unit {0}
IsCallerBefore n (Guest subtask) = subtask.by < n

-- Task 0, which nobody called, instantiates, and each other one runs a function.
abbrev pub IsCalledAs : ℕ → Task → Type 0
IsCalledAs zero task = (task.callee ≡ Init) × (task.caller ≡ Nobody)
IsCalledAs (suc n) task = IsSome (func_of task.callee) × IsCallerBefore (suc n) task.caller

-- what each task is, by its number
abbrev pub Each : (ℕ → Task → Type 0) → List Task → Type 0
Each P tasks = (n : ℕ) (task : Task) → slice_get tasks n ≡ Some task → P n task

-- what an entry names, of these tasks and so many sets
abbrev pub IsNamed : List Task → ℕ → Entry → Type 0
IsNamed tasks sets (OwnHandle resource rep) = Unit {0}
IsNamed tasks sets (BorrowHandle resource rep task) = Unit {0}
IsNamed tasks sets (OfSubtask callee) = IsGuest tasks callee
IsNamed tasks sets (OfSet set) = set < sets
IsNamed tasks sets (OfEnd e) = Unit {0}

abbrev pub NamesWhatIsThere : List Task → Inst → Type 0
NamesWhatIsThere tasks inst = (index : ℕ) (entry : Entry) → live inst.table index ≡ Some entry → IsNamed tasks (length inst.sets) entry

pub record AreNumbered (tasks : List Task) (insts : List Inst) (chain : List ℕ) : Type 0 where
  pub instantiates : IsSome (slice_get tasks 0)
  pub called : Each IsCalledAs tasks
  pub running : AllByRecursion (λ t. IsSome (slice_get tasks t)) chain
  pub entries : AllByRecursion (NamesWhatIsThere tasks) insts

abbrev pub IsNumbered : World → Type 0
IsNumbered w = AreNumbered w.tasks w.insts w.chain

-- So it is in the first world, and so it stays.
abbrev pub FirstNumbered : Type 0
FirstNumbered = (g : Graph) → IsNumbered (first_world g)

abbrev pub StaysNumbered : Type 0
StaysNumbered = (g : Graph) (s : Script) (w v : World) (labels : List Label) → RunsAlone w → IsNumbered w → next g s w ≡ Steps labels v → IsNumbered v
