-- What a table of handles stands for: all adds and removals so far (Component Model, CanonicalABI.md, "Table State"). A
-- history has the latest event first.
use Rattle.std.specs.Prelude.{◌≡◌, ℕ, zero, suc, ◌+◌, ◌<◌, max, nat_eq, if◌then◌else◌, List, [], ◌∷◌, ◌++◌, count_by, Option, Some, None, is_some, IsSome}

-- an entry was added at this index, or the one at this index was removed
pub data Event (E : Type 0) : Type 0 where
  Add : ℕ → E → Event E
  Remove : ℕ → Event E

-- the number of live entries that a table holds at most
abbrev pub most_live : ℕ
most_live = 65535

-- a list of indices without this one
abbrev pub without : ℕ → List ℕ → List ℕ
without index [] = []
without index (i ∷ rest) = if nat_eq index i then without index rest else i ∷ without index rest

-- the first of the freed indices, and one more than the greatest where none is freed
abbrev pub next_in : List ℕ → ℕ → ℕ
next_in [] greatest = greatest + 1
next_in (index ∷ _) greatest = index

module _ {E : Type 0} where
  -- the entry that was added at an index and not removed since
  abbrev pub live : List (Event E) → ℕ → Option E
  live [] index = None
  live (Add i entry ∷ earlier) index = if nat_eq i index then Some entry else live earlier index
  live (Remove i ∷ earlier) index = if nat_eq i index then None else live earlier index

  -- the greatest index that was ever given, 0 where none was
  abbrev pub greatest : List (Event E) → ℕ
  greatest [] = 0
  greatest (Add i _ ∷ earlier) = max i (greatest earlier)
  greatest (Remove _ ∷ earlier) = greatest earlier

  -- the indices that were removed and not given again, the one removed last first
  abbrev pub freed : List (Event E) → List ℕ
  freed [] = []
  freed (Add i _ ∷ earlier) = without i (freed earlier)
  freed (Remove i ∷ earlier) = i ∷ without i (freed earlier)

  -- the index that the next add is given
  abbrev pub next_index : List (Event E) → ℕ
  next_index h = next_in (freed h) (greatest h)

  -- what is live at the indices 1 to n
  abbrev pub slots_up_to : List (Event E) → ℕ → List (Option E)
  slots_up_to h zero = []
  slots_up_to h (suc n) = slots_up_to h n ++ live h (suc n) ∷ []

  -- what is live at all indices that were ever given
  abbrev pub slots_of : List (Event E) → List (Option E)
  slots_of h = slots_up_to h (greatest h)

  abbrev pub live_count : List (Event E) → ℕ
  live_count h = count_by is_some (slots_of h)

  -- Each add is given the next index, while the table isn't full, and only what is live is removed.
  abbrev pub IsHistory : List (Event E) → Type 0
  IsHistory [] = Unit {0}
  IsHistory (Add i _ ∷ earlier) = IsHistory earlier × (i ≡ next_index earlier) × (live_count earlier < most_live)
  IsHistory (Remove i ∷ earlier) = IsHistory earlier × IsSome (live earlier i)
