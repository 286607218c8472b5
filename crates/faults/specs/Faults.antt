-- What is said of a call that answers a fault, or is short of memory and then says nothing; and the first fault of a list
-- of items.
use Rattle.std.specs.Prelude.{◌≡◌, List, [], ◌∷◌, ◌++◌, Option, Some, None, Result, Ok, Err}
use Rattle.std.specs.Option.{option_or}
use Rattle.faults.specs.declared.memory.MemoryOr.{MemoryOr}
use Rattle.faults.specs.declared.memory.MemoryOr.TheVariants.{Memory, Fault}

-- what holds of the fault, where an error is one
abbrev pub IfFault : {F : Type 0} → MemoryOr F → (F → Type 0) → Type 0
IfFault Memory P = Unit {0}
IfFault (Fault fault) P = P fault

-- What a search answers: the fault, or that there is none.
abbrev pub MayFind : {X F : Type 0} → Option F → Result X (MemoryOr F) → Type 0
MayFind found (Ok _) = found ≡ None
MayFind found (Err (Fault fault)) = found ≡ Some fault
MayFind found (Err Memory) = Unit {0}

-- What a call answers that makes something, as seen by view: it, or the fault.
abbrev pub MayMake : {A X F : Type 0} → (X → A) → Result A F → Result X (MemoryOr F) → Type 0
MayMake view made (Ok x) = made ≡ Ok (view x)
MayMake view made (Err (Fault fault)) = made ≡ Err fault
MayMake view made (Err Memory) = Unit {0}

-- What a call left of a state that it changes: the state, or the fault.
abbrev pub MayStep : {X S F : Type 0} → Result S F → S → Result X (MemoryOr F) → Type 0
MayStep stepped now (Ok _) = stepped ≡ Ok now
MayStep stepped now (Err (Fault fault)) = stepped ≡ Err fault
MayStep stepped now (Err Memory) = Unit {0}

-- the first fault of these items, which stand behind the others, by a rule on an item behind those before it
abbrev pub first_in : {A F : Type 0} → (List A → A → Option F) → List A → List A → Option F
first_in rule before [] = None
first_in rule before (x ∷ xs) = option_or (rule before x) (first_in rule (before ++ x ∷ []) xs)

-- a step on what the steps before gave
abbrev pub and_on : {S F : Type 0} → Result S F → (S → Result S F) → Result S F
and_on (Ok s) f = f s
and_on (Err e) f = Err e

-- the state behind these items, or the first fault
abbrev pub folded : {S A F : Type 0} → (S → A → Result S F) → S → List A → Result S F
folded step s [] = Ok s
folded step s (x ∷ xs) = and_on (step s x) (λ t. folded step t xs)
