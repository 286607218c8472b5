-- Acting tasks (Component Model, CanonicalABI.md, "Task State": `Task.enter`; Concurrency.md, "Summary"): what the task of a number is, which
-- one acts, and which may be inside its instance.
use Rattle.std.specs.Prelude.{◌≡◌, ◌⊎◌, ℕ, true, is_none, List, Some}
use Rattle.std.specs.List.{slice_get}
use Rattle.entry_gate.specs.Kinds.{needs_entry}
use Rattle.entry_gate.specs.Stays.{Inside, holder_of}
use Rattle.comp_graph.specs.Graph.{Lifted}
use Rattle.abi_machine.specs.World.{TaskState, Acting, Begins, Task}
use Rattle.abi_machine.specs.Reading.{func_of, kind_of}
use Rattle.abi_machine.specs.Gate.{place_of, stays_in}
use Rattle.abi_machine.specs.sound.Changes.{IsFirst}

-- The task of a number is there, and is so.
abbrev pub TaskIs : List Task → ℕ → (Task → Type 0) → Type 0
TaskIs tasks t P = (task : Task) × (slice_get tasks t ≡ Some task) × P task

-- the acting task
abbrev pub FirstIs : List Task → List ℕ → (Task → Type 0) → Type 0
FirstIs tasks chain P = (t : ℕ) × IsFirst t chain × TaskIs tasks t P

-- It is at its core function, or at a start function.
abbrev pub IsActingState : TaskState → Type 0
IsActingState Acting = Unit {0}
IsActingState (Begins n) = Unit {0}
IsActingState state = ⊥

abbrev pub IsActing : Task → Type 0
IsActing task = IsActingState task.state

-- A task may be inside its instance, among these: it is there already, or it needs no exclusive entry, or no task holds that.
abbrev pub MayBeInside : List Task → Task → Type 0
MayBeInside tasks task =
    (place_of task.state ≡ Inside)
    ⊎ ((f : Lifted) → func_of task.callee ≡ Some f → needs_entry (kind_of task) ≡ true → is_none (holder_of (stays_in f.instance tasks)) ≡ true)

abbrev pub IsLetIn : List Task → ℕ → Type 0
IsLetIn tasks t = TaskIs tasks t (MayBeInside tasks)
