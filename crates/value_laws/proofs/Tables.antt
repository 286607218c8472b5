-- Rooms that have a table.
use Rattle.std.proofs.Common.{ℕ, List, Result}
use Rattle.handle_table.specs.Slots.{Slots}
use Rattle.res_handles.specs.declared.entry.EntryView.{EntryView}
use Rattle.value_lower.specs.declared.ends.RoomEnd.{RoomEnd}
use Rattle.value_lower.specs.Plan.{Ask, New}
use Rattle.value_lower.specs.Tables.{tabled}
use Rattle.copy_engine.specs.Answering.{Setting}
use Rattle.copy_engine.specs.Hosted.{Placed, hosted_rooms}
use Rattle.value_laws.specs.Arriving.{HasTable}

-- a room beside a table,
pub room_has : {R E T : Type 0} (memory : R → List ℕ) (answers : R → Ask → Result ℕ (RoomEnd T) → R → Type 0) (wrote : R → ℕ → List ℕ → R → Type 0) (is : New → E → Type 0)
    → HasTable (tabled memory answers wrote is) (λ (p : R × Slots E). p.1) is
room_has memory answers wrote is = record { answered = λ r s ask result h. h.1; wrote = λ r s place bytes h. h.1; added = λ r s entry given h. h.0 }

-- and a store with a realloc that sees the table
pub store_has : {E : Type 0} (seen : E → EntryView) (is : New → E → Type 0) (to : Setting) → HasTable (hosted_rooms seen is to) (λ (p : Placed E). p.slots) is
store_has seen is to = record { answered = λ r s ask result h. h.2; wrote = λ r s place bytes h. h.2; added = λ r s entry given h. h.0 }
