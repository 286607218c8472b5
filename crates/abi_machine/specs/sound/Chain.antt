-- The chain (Component Model, CanonicalABI.md, "Task State", "Subtask State"; Concurrency.md, "Summary"): the acting task stands first, and
-- under each task the one that called or cancelled it last and waits for it. None stands twice, and each task that does not stand on the
-- chain is blocked or has exited.
use Rattle.std.specs.Prelude.{◌≡◌, ◌≢◌, ℕ, List, [], ◌∷◌, map, Some}
use Rattle.std.specs.List.{slice_get}
use Rattle.abi_machine.specs.World.{TaskState, AfterCall, AfterCancel, Exited, Task, World}
use Rattle.abi_machine.specs.sound.Changes.{IsBlocked}

-- the states of tasks, by their numbers, and what holds of what stands at a number
abbrev pub states_of : List Task → List TaskState
states_of tasks = map (λ task. task.state) tasks

abbrev pub IsAt : {A : Type 0} → List A → ℕ → (A → Type 0) → Type 0
IsAt {A} xs n P = (x : A) × (slice_get xs n ≡ Some x) × P x

-- A task waits for the one of this number, which it called or cancelled.
abbrev pub WaitsFor : ℕ → TaskState → Type 0
WaitsFor t (AfterCall callee number words) = callee ≡ t
WaitsFor t (AfterCancel callee number words) = callee ≡ t
WaitsFor t state = ⊥

-- A task has not exited.
abbrev pub IsThere : TaskState → Type 0
IsThere Exited = ⊥
IsThere state = Unit {0}

-- A task is blocked, or has exited.
abbrev pub IsAside : TaskState → Type 0
IsAside Exited = Unit {0}
IsAside state = IsBlocked state

-- Those under a task: the first waits for it, and each other one for the one right above.
abbrev pub AreUnder : List TaskState → ℕ → List ℕ → Type 0
AreUnder states t [] = Unit {0}
AreUnder states t (u ∷ below) = IsAt states u (WaitsFor t) × AreUnder states u below

abbrev pub StandOver : List TaskState → List ℕ → Type 0
StandOver states [] = Unit {0}
StandOver states (t ∷ below) = IsAt states t IsThere × AreUnder states t below

-- A task does not stand among others, and none stands twice.
abbrev pub IsApart : ℕ → List ℕ → Type 0
IsApart t [] = Unit {0}
IsApart t (u ∷ below) = (t ≢ u) × IsApart t below

abbrev pub StandOnce : List ℕ → Type 0
StandOnce [] = Unit {0}
StandOnce (t ∷ below) = IsApart t below × StandOnce below

pub record IsChain (states : List TaskState) (chain : List ℕ) : Type 0 where
  pub standing : StandOver states chain
  pub once : StandOnce chain
  pub others : (t : ℕ) (state : TaskState) → slice_get states t ≡ Some state → IsApart t chain → IsAside state

abbrev pub IsChained : World → Type 0
IsChained w = IsChain (states_of w.tasks) w.chain
