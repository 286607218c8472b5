-- What a read of a source and a write to a sink do with bytes, where the source or sink tells them.
use Rattle.std.specs.Prelude.{◌≡◌, ℕ, ◌<◌, ◌≤◌, List, ◌++◌, length, take, drop, Option, Some, None}

-- Of the bytes that are held, a read at a place gives a front of those from there on, into the front of a slice. That
-- it gives none into a slice with room means that none are left.
pub record ReadsAt (bytes : List ℕ) (at count : ℕ) (into : List ℕ) : Type 0 where
  pub front : take count into ≡ take count (drop at bytes)
  pub ended : count ≡ 0 → 0 < length into → length bytes ≤ at

-- what was taken, with this part at its end
abbrev pub grown : Option (List ℕ) → List ℕ → Option (List ℕ)
grown None part = None
grown (Some taken) part = Some (taken ++ part)

-- some front of the text was taken, and nothing else
abbrev pub TookFront : Option (List ℕ) → Option (List ℕ) → List ℕ → Type 0
TookFront before now text = (count : ℕ) × (now ≡ grown before (take count text))
