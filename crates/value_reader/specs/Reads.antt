-- What is said of a call that reads from a text: what was found at the text's front, and what follows it there; or that
-- nothing was.
use Rattle.std.specs.Prelude.{◌≡◌, ℕ, Bool, true, false, List, Option, Some, None, Result, Ok, Err}
use Rattle.faults.specs.declared.memory.MemoryOr.{MemoryOr}
use Rattle.faults.specs.declared.memory.Memory.{Memory as Want}
use Rattle.faults.specs.declared.memory.MemoryOr.TheVariants.{Memory, Fault}
use Rattle.value_reader.specs.declared.fault.NoText.{NoText}

abbrev pub Found : Type 0 → Type 0
Found A = Option (A × List ℕ)

-- a call that finds something, with what is left of the text
abbrev pub Reads : {A : Type 0} → Found A → List ℕ → Result A NoText → Type 0
Reads found rest (Ok x) = found ≡ Some (x, rest)
Reads found rest (Err fault) = found ≡ None

-- a call that finds what it was asked for
abbrev pub Follows : {A : Type 0} → Option (List ℕ) → List ℕ → Result A NoText → Type 0
Follows found rest (Ok x) = found ≡ Some rest
Follows found rest (Err fault) = found ≡ None

-- a call that tells whether something stands here, and goes on behind it
abbrev pub Tests : Option (List ℕ) → List ℕ → List ℕ → Bool → Type 0
Tests found before rest true = found ≡ Some rest
Tests found before rest false = (found ≡ None) × (rest ≡ before)

-- a call that finds something, or is short of memory and then says nothing
abbrev pub MayRead : {A : Type 0} → Found A → List ℕ → Result A (MemoryOr NoText) → Type 0
MayRead found rest (Ok x) = found ≡ Some (x, rest)
MayRead found rest (Err (Fault fault)) = found ≡ None
MayRead found rest (Err Memory) = Unit {0}

-- a call that reads a whole text, as seen by view, or is short of memory
abbrev pub MayMake : {A : Type 0} → Option A → Result A (MemoryOr NoText) → Type 0
MayMake found (Ok x) = found ≡ Some x
MayMake found (Err (Fault fault)) = found ≡ None
MayMake found (Err Memory) = Unit {0}

-- what is answered of what was read: it, or none
abbrev pub Answers : {A : Type 0} → Result A (MemoryOr NoText) → Result (Option A) Want → Type 0
Answers (Ok x) (Ok y) = y ≡ Some x
Answers (Err (Fault fault)) (Ok y) = y ≡ None
Answers (Err Memory) (Ok y) = ⊥
Answers read (Err e) = Unit {0}
