-- Why a call of the program has no answer, and what the counts of faults say of it.
use Rattle.std.specs.Prelude.{◌≡◌, ℕ, Result, Ok, Err}
use Rattle.ca_io.specs.Causes.{Rose}
use Rattle.wcm.specs.declared.files.NotRead.{NotRead}
use Rattle.wcm.specs.declared.files.NotRead.TheVariants as read
use Rattle.wcm.specs.declared.answer.Stop.{Stop}
use Rattle.wcm.specs.declared.answer.Stop.TheVariants.{Fault, Write, Memory}

-- `Fault` comes only where the count of the files' faults rose, and the count is as before with every other answer
abbrev pub ReadsFor : {X : Type 0} → ℕ → ℕ → Result X NotRead → Type 0
ReadsFor before now (Ok x) = now ≡ before
ReadsFor before now (Err read.Fault) = Rose before now
ReadsFor before now (Err read.Memory) = now ≡ before

abbrev pub StopsFor : {X : Type 0} → ℕ → ℕ → Result X Stop → Type 0
StopsFor before now (Ok x) = now ≡ before
StopsFor before now (Err Fault) = Rose before now
StopsFor before now (Err Write) = now ≡ before
StopsFor before now (Err Memory) = now ≡ before

-- the same of `Write` and the count of the output's faults
abbrev pub WritesFor : {X : Type 0} → ℕ → ℕ → Result X Stop → Type 0
WritesFor before now (Ok x) = now ≡ before
WritesFor before now (Err Fault) = now ≡ before
WritesFor before now (Err Write) = Rose before now
WritesFor before now (Err Memory) = now ≡ before
