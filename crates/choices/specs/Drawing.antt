-- The picks that were given and how many of them were used.
use Rattle.std.specs.Prelude.{◌≡◌, ℕ, ◌+◌, ◌≤◌, ◌%◌, Bool, ◌&&◌, nat_lt, if◌then◌else◌, List, [], ◌∷◌, ◌++◌, length, drop, slice_index}
use Rattle.choices.specs.Choosing.{is_choice}

-- all picks so far, and the number of those that were used
pub record Drawn : Type 0 where
  pub given : List ℕ
  pub used : ℕ

-- what is left are those that were given and not used
pub record StandsFor (d : Drawn) (picks : List ℕ) : Type 0 where
  pub used : d.used ≤ length d.given
  pub left : picks ≡ drop d.used d.given

abbrev pub nothing_given : Drawn
nothing_given = record { given = []; used = 0 }

abbrev pub given_too : ℕ → Drawn → Drawn
given_too pick d = record { given = d.given ++ pick ∷ []; used = d.used }

-- a choice among so many uses one, where one is left
abbrev pub uses_one : ℕ → Drawn → Bool
uses_one alternatives d = is_choice alternatives && nat_lt d.used (length d.given)

abbrev pub drawn : ℕ → Drawn → Drawn
drawn alternatives d = if uses_one alternatives d then record { given = d.given; used = d.used + 1 } else d

abbrev pub drawn_answer : ℕ → Drawn → ℕ
drawn_answer alternatives d = if uses_one alternatives d then slice_index d.given d.used % alternatives else 0
