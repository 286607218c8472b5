-- Counts of calls, and of those that failed.
use Rattle.std.specs.Prelude.{ℕ, ◌+◌, ◌-◌, ◌^◌, List, min}
use Rattle.std.specs.List.{Contains}

-- one more, up to the last value of a count's type, where it stays
abbrev pub one_more : ℕ → ℕ
one_more count = min (count + 1) (2 ^ 64 - 1)

-- the number of the call after so many is on the list of those that are to fail; the first call has the number 1
abbrev pub NextFails : List ℕ → ℕ → Type 0
NextFails fails calls = Contains fails (one_more calls)
