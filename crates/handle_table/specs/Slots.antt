-- A table of handles as contracts see it: a slot for each index that was ever given, and the freed indices.
use Rattle.std.specs.Prelude.{◌≡◌, ℕ, zero, suc, List, [], ◌∷◌, ◌++◌, length, drop, count_by, slice_index_or, slice_set, Option, Some, None, is_some, refl}
use Rattle.std.specs.List.{filter, range_with_len}
use Rattle.std.specs.Coded.{Coded, code_by, coded×, coded_ℕ, coded_list, coded_option}
use Rattle.handle_table.specs.History.{Event, next_in, slots_of, freed, IsHistory}

-- the slots from index 1 on, and the freed indices, the one removed last first
pub record Slots (E : Type 0) : Type 0 where
  pub entries : List (Option E)
  pub freed : List ℕ

-- with it, how many entries can surely be added without memory
pub record TableState (E : Type 0) : Type 0 where
  pub slots : Slots E
  pub spare : ℕ

-- a table is stored as the tuple of its fields
abbrev pub table_code : {E : Type 0} → Coded E → Coded (TableState E)
table_code {E} code =
    code_by
    (List (Option E) × (List ℕ × ℕ))
    (coded× (coded_list (coded_option code)) (coded× (coded_list coded_ℕ) coded_ℕ))
    (λ t. (t.slots.entries, (t.slots.freed, t.spare)))
    (λ p. record { slots = record { entries = p.0; freed = p.1.0 }; spare = p.1.1 })
    (λ _. refl)

module _ {E : Type 0} where
  -- what is in the slot of an index: index 0 has none
  abbrev pub slot_at : List (Option E) → ℕ → Option E
  slot_at entries zero = None
  slot_at entries (suc place) = slice_index_or entries place None

  -- the slots with this one changed
  abbrev pub with_slot : List (Option E) → ℕ → Option E → List (Option E)
  with_slot entries zero slot = entries
  with_slot entries (suc place) slot = slice_set entries place slot

  abbrev pub no_slots : Slots E
  no_slots = record { entries = []; freed = [] }

  abbrev pub entry_at : Slots E → ℕ → Option E
  entry_at s index = slot_at s.entries index

  -- the number of live entries
  abbrev pub count : Slots E → ℕ
  count s = count_by is_some s.entries

  -- the index that the next add is given
  abbrev pub next_of : Slots E → ℕ
  next_of s = next_in s.freed (length s.entries)

  -- the indices at which an entry is live, rising
  abbrev pub live_indices : Slots E → List ℕ
  live_indices s = filter (λ index. is_some (entry_at s index)) (range_with_len 1 (length s.entries))

  -- The slots with an entry at the next index: the slot that was freed last, or a new one
  abbrev pub filled : List (Option E) → List ℕ → E → List (Option E)
  filled entries [] entry = entries ++ Some entry ∷ []
  filled entries (index ∷ _) entry = with_slot entries index (Some entry)

  abbrev pub added : E → Slots E → Slots E
  added entry s = record { entries = filled s.entries s.freed entry; freed = drop 1 s.freed }

  abbrev pub removed : ℕ → Slots E → Slots E
  removed index s = record { entries = with_slot s.entries index None; freed = index ∷ s.freed }

  abbrev pub with_entry : ℕ → E → Slots E → Slots E
  with_entry index entry s = record { entries = with_slot s.entries index (Some entry); freed = s.freed }

  -- the slots that a history leaves
  abbrev pub slots_after : List (Event E) → Slots E
  slots_after h = record { entries = slots_of h; freed = freed h }

  -- these slots may come of this history
  pub record StandsFor (h : List (Event E)) (s : Slots E) : Type 0 where
    pub history : IsHistory h
    pub slots : s ≡ slots_after h
