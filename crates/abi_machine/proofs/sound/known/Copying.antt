-- What is known where a copy is told, and where a task blocks until one is over.
use Rattle.std.proofs.Common.{◌≡◌, ℕ, List, Some}
use Rattle.std.specs.List.{slice_get}
use Rattle.comp_graph.specs.Graph.{Graph, Lifted}
use Rattle.abi_machine.specs.Control.{EndRef}
use Rattle.abi_machine.specs.World.{Inst, ForCopy, TaskState, InBuiltin, Task, World}
use Rattle.abi_machine.specs.Reading.{func_of}
use Rattle.abi_machine.specs.sound.EndPlaces.{EndStandsAt}
use Rattle.abi_machine.specs.sound.Owners.{owner_of_canon}
use Rattle.abi_machine.specs.sound.CopyWaits.{WaitsForCopy, AwaitsCopy, AwaitCopies}

-- Each end stands in one place at most.
abbrev pub EndsStandOnce : List Inst → Type 0
EndsStandOnce insts = (i index j other : ℕ) (e : EndRef) → EndStandsAt insts i index e → EndStandsAt insts j other e → (i ≡ j) × (index ≡ other)

-- No task waits for the copy of an end.
abbrev pub NoneAwaits : World → EndRef → Type 0
NoneAwaits w e =
    (u number index : ℕ) (x : Task) (f : Lifted) → slice_get w.tasks u ≡ Some x → func_of x.callee ≡ Some f → WaitsForCopy x number index → EndStandsAt w.insts f.instance index e → ⊥

-- A task blocks until its own copy is over.
abbrev pub BlocksCopying : Graph → ℕ → TaskState → World → Type 0
BlocksCopying g t (InBuiltin number words (ForCopy index)) w = (i : ℕ) × (owner_of_canon g number ≡ Some i) × AwaitsCopy g w.insts w.streams w.futures t number index i
BlocksCopying g t state w = Unit {0}

-- what is known of the start of a turn
pub record CopyFacts (g : Graph) (w : World) : Type 0 where
  pub once : EndsStandOnce w.insts
  pub awaits : AwaitCopies g w
