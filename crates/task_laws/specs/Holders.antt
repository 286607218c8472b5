-- Exclusive entry (Component Model, CanonicalABI.md, "Task State": `Task.enter`; Concurrency.md, "Backpressure"): of the tasks of a component instance at
-- most one holds it, in each world that a run reaches.
use Rattle.std.specs.Prelude.{◌≡◌, ℕ, List, Some}
use Rattle.std.specs.List.{slice_get}
use Rattle.entry_gate.specs.declared.kind.Kind.{Kind}
use Rattle.entry_gate.specs.declared.kind.Kind.TheVariants.{Sync, Callback, Stackful}
use Rattle.comp_graph.specs.Graph.{Graph, Lifted}
use Rattle.script_reader.specs.Script.{Script}
use Rattle.trace_labels.specs.declared.label.Label.{Label}
use Rattle.abi_machine.specs.World.{TaskState, New, WaitsToEnter, InLoop, Exited, Task, World, first_world}
use Rattle.abi_machine.specs.Canons.{kind_of_options}
use Rattle.abi_machine.specs.Reading.{func_of}
use Rattle.abi_machine.specs.Run.{Reaches}

-- A function of this kind needs exclusive entry: one that is lifted synchronously, or with a callback.
abbrev pub NeedsEntry : Kind → Type 0
NeedsEntry Sync = Unit {0}
NeedsEntry Callback = Unit {0}
NeedsEntry Stackful = ⊥

-- A task has entered, has not exited, and is not blocked in its loop.
abbrev pub IsInside : TaskState → Type 0
IsInside New = ⊥
IsInside WaitsToEnter = ⊥
IsInside (InLoop word) = ⊥
IsInside Exited = ⊥
IsInside state = Unit {0}

-- A task holds exclusive entry to the component instance of this number: it runs a function of it that needs this, and is inside.
pub record HoldsEntry (i : ℕ) (task : Task) : Type 0 where
  pub func : Lifted
  pub runs : func_of task.callee ≡ Some func
  pub of_instance : func.instance ≡ i
  pub needs : NeedsEntry (kind_of_options func.options)
  pub inside : IsInside task.state

abbrev pub HasOneHolder : World → Type 0
HasOneHolder w = (i n m : ℕ) (x y : Task) → slice_get w.tasks n ≡ Some x → slice_get w.tasks m ≡ Some y → HoldsEntry i x → HoldsEntry i y → n ≡ m

abbrev pub ReachedHaveOneHolder : Type 0
ReachedHaveOneHolder = (g : Graph) (s : Script) (steps : List (List Label)) (w : World) → Reaches g s (first_world g) steps w → HasOneHolder w
