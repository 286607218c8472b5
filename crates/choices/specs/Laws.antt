-- What holds of every run of choices.
use Rattle.std.specs.Prelude.{◌≡◌, ℕ, ◌≤◌, ◌<◌, ◌%◌, if◌then◌else◌, List, [], ◌∷◌, count_by, slice_index}
use Rattle.choices.specs.Choosing.{is_choice, picked, left}

-- what is picked is one of the alternatives
abbrev pub IsAmong : Type 0
IsAmong = (alternatives : ℕ) (picks : List ℕ) → 1 ≤ alternatives → picked alternatives picks < alternatives

-- the picks that are left after choices among these numbers of alternatives
abbrev pub left_after : List ℕ → List ℕ → List ℕ
left_after [] picks = picks
left_after (alternatives ∷ later) picks = left_after later (left alternatives picks)

-- Behind these choices the one among so many is made by the pick with the number of those that had something to choose,
-- 0 where there is no such pick.
abbrev pub InTurn : Type 0
InTurn =
    (before picks : List ℕ) (alternatives : ℕ)
    → picked alternatives (left_after before picks) ≡ (if is_choice alternatives then slice_index picks (count_by is_choice before) % alternatives else 0)
