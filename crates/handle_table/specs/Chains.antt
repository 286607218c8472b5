-- How a table keeps its slots: each free one holds the index that was removed before its own. No public clause cites this
-- module.
use Rattle.std.specs.Prelude.{ℕ, zero, suc, ◌-◌, List, [], ◌∷◌, length, map, slice_index_or, Option, Some, None}
use Rattle.handle_table.specs.Slots.{Slots}
use Rattle.handle_table.specs.declared.slot.Slot.{Slot}
use Rattle.handle_table.specs.declared.slot.Slot.TheVariants.{Live, Free}

module _ {E : Type 0} where
  -- the entry of a slot
  abbrev pub entry_of : Slot E → Option E
  entry_of (Live entry) = Some entry
  entry_of (Free _) = None

  -- the index that was removed before that of a free slot
  abbrev pub freed_before : Slot E → ℕ
  freed_before (Live _) = 0
  freed_before (Free index) = index

  -- so many freed indices from this one on: each stands in the slot of the one before it
  abbrev pub freed_from : ℕ → List (Slot E) → ℕ → List ℕ
  freed_from zero slots index = []
  freed_from (suc more) slots index = index ∷ freed_from more slots (freed_before (slice_index_or slots (index - 1) (Free 0)))

  -- these slots as contracts see them, where this index was removed last and so many entries are live
  abbrev pub shown : List (Slot E) → ℕ → ℕ → Slots E
  shown slots last live = record { entries = map entry_of slots; freed = freed_from (length slots - live) slots last }
