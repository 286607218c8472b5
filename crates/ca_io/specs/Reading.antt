-- What the answer of reading a whole file says about the source's count of faults.
use Rattle.std.specs.Prelude.{◌≡◌, ℕ, ◌≤◌, Result, Ok, Err}
use Rattle.ca_io.specs.Causes.{Rose}
use Rattle.ca_io.specs.declared.reading.FileError.{FileError}
use Rattle.ca_io.specs.declared.reading.FileError.TheVariants.{Fault, Limit, Memory}

-- a fault is told only where the count rose, and wherever it grew
abbrev pub Told : {T : Type 0} → ℕ → ℕ → Result T FileError → Type 0
Told before now (Ok found) = now ≡ before
Told before now (Err Fault) = Rose before now
Told before now (Err Limit) = now ≡ before
Told before now (Err Memory) = now ≡ before

-- the count never falls, and rises with the answer `Fault` alone
pub record HasReadCause {T : Type 0} (before now : ℕ) (result : Result T FileError) : Type 0 where
  pub later : before ≤ now
  pub told : Told before now result
