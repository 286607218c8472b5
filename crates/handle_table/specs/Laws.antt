-- What holds of every history of a table.
use Rattle.std.specs.Prelude.{◌≡◌, ℕ, ◌+◌, ◌≤◌, Bool, true, false, ◌||◌, nat_eq, if◌then◌else◌, List, [], ◌∷◌, None, IsSome}
use Rattle.handle_table.specs.History.{Event, Add, Remove, live, greatest, next_index, live_count, IsHistory, most_live}
use Rattle.handle_table.specs.Slots.{Slots, with_entry, StandsFor}

module _ {E : Type 0} where
  -- an entry was once added at this index
  abbrev pub once_added : List (Event E) → ℕ → Bool
  once_added [] index = false
  once_added (Add i _ ∷ earlier) index = nat_eq i index || once_added earlier index
  once_added (Remove _ ∷ earlier) index = once_added earlier index

  -- an index that was given and is free
  pub record IsFree (h : List (Event E)) (index : ℕ) : Type 0 where
    pub given : once_added h index ≡ true
    pub gone : live h index ≡ None

  -- how many events came after the last removal at this index
  abbrev pub since_removal : ℕ → List (Event E) → ℕ
  since_removal index [] = 0
  since_removal index (Add _ _ ∷ earlier) = since_removal index earlier + 1
  since_removal index (Remove i ∷ earlier) = if nat_eq i index then 0 else since_removal index earlier + 1

  -- the history where the entry that was last added at an index is another one
  abbrev pub with_changed : ℕ → E → List (Event E) → List (Event E)
  with_changed index now [] = []
  with_changed index now (Add i entry ∷ earlier) = if nat_eq i index then Add i now ∷ earlier else Add i entry ∷ with_changed index now earlier
  with_changed index now (Remove i ∷ earlier) = Remove i ∷ with_changed index now earlier

-- The index that the next add is given is not live,
abbrev pub NotGivenWhileLive : Type 0 → Type 0
NotGivenWhileLive E = (h : List (Event E)) → IsHistory h → live h (next_index h) ≡ None

-- and never 0.
abbrev pub NeverZero : Type 0 → Type 0
NeverZero E = (h : List (Event E)) → IsHistory h → 1 ≤ next_index h

-- Where indices are free it is one of them, and none was removed later.
abbrev pub FreedLastGivenFirst : Type 0 → Type 0
FreedLastGivenFirst E =
    (h : List (Event E)) (index : ℕ) → IsHistory h → IsFree h index
    → IsFree h (next_index h) × (since_removal (next_index h) h ≤ since_removal index h)

-- Where none is free it is one more than the greatest that was ever given.
abbrev pub ElseOneMore : Type 0 → Type 0
ElseOneMore E = (h : List (Event E)) → IsHistory h → ((index : ℕ) → IsFree h index → ⊥) → next_index h ≡ greatest h + 1

-- At most 65,535 entries are live.
abbrev pub AtMostLive : Type 0 → Type 0
AtMostLive E = (h : List (Event E)) → IsHistory h → live_count h ≤ most_live

-- Where a live entry is written, the slots stand for the history in which that entry was added.
abbrev pub WritesStand : Type 0 → Type 0
WritesStand E =
    (h : List (Event E)) (s : Slots E) (index : ℕ) (now : E) → IsSome (live h index) → StandsFor h s
    → StandsFor (with_changed index now h) (with_entry index now s)
