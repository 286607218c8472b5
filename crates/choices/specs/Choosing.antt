-- Which alternative is taken where a run has several (Component Model, Concurrency.md, leaves these choices free: here the
-- picks of a script make them).
use Rattle.std.specs.Prelude.{ℕ, ◌%◌, Bool, nat_lt, if◌then◌else◌, List, [], ◌∷◌, drop, Option, Some, None}

-- there is something to choose
abbrev pub is_choice : ℕ → Bool
is_choice alternatives = nat_lt 1 alternatives

-- the pick that is used next
abbrev pub first : List ℕ → Option ℕ
first [] = None
first (pick ∷ _) = Some pick

-- the alternative that a pick takes, the first one where no pick is left
abbrev pub taken : ℕ → Option ℕ → ℕ
taken alternatives None = 0
taken alternatives (Some pick) = pick % alternatives

-- the alternative that is taken among so many
abbrev pub picked : ℕ → List ℕ → ℕ
picked alternatives picks = if is_choice alternatives then taken alternatives (first picks) else 0

-- the picks that are left then
abbrev pub left : ℕ → List ℕ → List ℕ
left alternatives picks = if is_choice alternatives then drop 1 picks else picks
