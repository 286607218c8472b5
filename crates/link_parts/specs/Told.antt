-- What calls of linking (Component Model, Explainer.md, "Component Definitions") answer beside what is computed: a value that stands
-- for the computed one, or the computed reason; and nothing is said of want of memory.
use Rattle.std.specs.Prelude.{◌≡◌, Result, Ok, Err}
use Rattle.faults.specs.declared.memory.MemoryOr.{MemoryOr}
use Rattle.faults.specs.declared.memory.MemoryOr.TheVariants.{Memory, Fault}

-- a reason, or want of memory, beside what is computed
abbrev pub IsReason : {A W : Type 0} → MemoryOr W → Result A W → Type 0
IsReason Memory answer = Unit {0}
IsReason (Fault w) (Ok a) = ⊥
IsReason (Fault w) (Err v) = w ≡ v

-- What is answered stands for what is computed, as R says.
abbrev pub IsTold : {A B W : Type 0} → (B → A → Type 0) → Result B (MemoryOr W) → Result A W → Type 0
IsTold R (Ok b) (Ok a) = R b a
IsTold R (Ok b) (Err w) = ⊥
IsTold R (Err e) answer = IsReason e answer
