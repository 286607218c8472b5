-- What the tests ask of lists.
use Rattle.std.specs.Prelude.{ℕ, List, ◌+◌, length, nat_lt, nat_le, if◌then◌else◌, Option, Some, None, Result, Ok, Err}

-- the fault of a number that stands behind so many others
abbrev pub too_many : ℕ → List ℕ → ℕ → Option ℕ
too_many count before number = if nat_lt (length before) count then None else Some number

-- a sum with one more number, where it is not above 100, and what is made of it
abbrev pub added : {T : Type 0} → (ℕ → T) → ℕ → ℕ → Result T ℕ
added made sum number = if nat_le (sum + number) 100 then Ok (made (sum + number)) else Err number
