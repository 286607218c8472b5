-- A trace over a sink of bytes: what the sink took, and behind it the text that the trace keeps back, are the text put so
-- far. So the sink took a front of that text, and all of it where nothing is kept back.
use Rattle.std.specs.Prelude.{◌≡◌, ℕ, ◌≤◌, List, Option, Result, Ok, Err}
use Rattle.faults.specs.declared.memory.MemoryOr.{MemoryOr}
use Rattle.faults.specs.declared.memory.MemoryOr.TheVariants.{Memory, Fault}
use Rattle.ca_io.specs.Bytes.{grown}
use Rattle.ca_io.specs.Causes.{Rose}

-- the text put so far, where the sink tells what it took
abbrev pub put_so_far : Option (List ℕ) → List ℕ → Option (List ℕ)
put_so_far taken kept = grown taken kept

-- a failure is told only where the count of faults rose, and wherever it grew
abbrev pub Told : {T E : Type 0} → ℕ → ℕ → Result T (MemoryOr E) → Type 0
Told before now (Ok done) = now ≡ before
Told before now (Err Memory) = now ≡ before
Told before now (Err (Fault failed)) = Rose before now

-- the count never falls, and rises with a failure alone
pub record HasPutCause {T E : Type 0} (before now : ℕ) (result : Result T (MemoryOr E)) : Type 0 where
  pub later : before ≤ now
  pub told : Told before now result
