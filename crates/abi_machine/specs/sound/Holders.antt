-- Exclusive entry (Component Model, CanonicalABI.md, "Task State": `Task.enter`; Concurrency.md, "Backpressure"): of the tasks of an instance
-- at most one holds it.
use Rattle.std.specs.Prelude.{◌≡◌, ℕ, true, List, Some}
use Rattle.std.specs.List.{slice_get}
use Rattle.entry_gate.specs.Stays.{holds}
use Rattle.comp_graph.specs.Graph.{Graph}
use Rattle.script_reader.specs.Script.{Script}
use Rattle.trace_labels.specs.declared.label.Label.{Label}
use Rattle.abi_machine.specs.World.{Task, World, first_world}
use Rattle.abi_machine.specs.Reading.{runs_in}
use Rattle.abi_machine.specs.Gate.{stay_of}
use Rattle.abi_machine.specs.Turn.{Steps}
use Rattle.abi_machine.specs.Next.{next}
use Rattle.abi_machine.specs.sound.Initial.{RunsAlone}

-- The task of a number runs in an instance, and holds exclusive entry to it.
abbrev pub IsHolder : ℕ → ℕ → Task → Type 0
IsHolder i number task = (runs_in i task ≡ true) × (holds (stay_of (number, task)) ≡ true)

abbrev pub HaveOneHolder : List Task → Type 0
HaveOneHolder tasks =
    (i n m : ℕ) (x y : Task) → slice_get tasks n ≡ Some x → slice_get tasks m ≡ Some y → IsHolder i n x → IsHolder i m y → n ≡ m

-- So it is in the first world, and so it stays.
abbrev pub FirstHasOneHolder : Type 0
FirstHasOneHolder = (g : Graph) → HaveOneHolder (first_world g).tasks

abbrev pub OneHolderStays : Type 0
OneHolderStays = (g : Graph) (s : Script) (w v : World) (labels : List Label) → RunsAlone w → HaveOneHolder w.tasks → next g s w ≡ Steps labels v → HaveOneHolder v.tasks
