-- What every table keeps. No public clause cites this module.
use Rattle.std.specs.Prelude.{◌≡◌, ◌≢◌, ℕ, ◌+◌, ◌≤◌, List, [], ◌∷◌, length, count_by, Option, None, is_some}
use Rattle.handle_table.specs.History.{most_live}
use Rattle.handle_table.specs.Slots.{Slots, slot_at}

abbrev pub NotIn : ℕ → List ℕ → Type 0
NotIn index [] = Unit {0}
NotIn index (i ∷ rest) = (index ≢ i) × NotIn index rest

module _ {E : Type 0} where
  -- an index that was given and whose slot is empty
  pub record IsEmptySlot (entries : List (Option E)) (index : ℕ) : Type 0 where
    pub given : 1 ≤ index
    pub within : index ≤ length entries
    pub empty : slot_at entries index ≡ None

  -- each is the index of an empty slot, and none stands twice
  abbrev pub AreFree : List (Option E) → List ℕ → Type 0
  AreFree entries [] = Unit {0}
  AreFree entries (index ∷ rest) = IsEmptySlot entries index × NotIn index rest × AreFree entries rest

  -- The freed indices are those of the empty slots.
  pub record IsSound (s : Slots E) : Type 0 where
    pub free : AreFree s.entries s.freed
    pub all : length s.entries ≡ count_by is_some s.entries + length s.freed
    pub small : length s.entries ≤ most_live

  -- the slots of a table: so many entries are live
  pub record IsTable (s : Slots E) (live : ℕ) : Type 0 where
    pub sound : IsSound s
    pub counted : live ≡ count_by is_some s.entries
