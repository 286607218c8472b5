-- What a slot ends as, where a `&mut` to its entry is lent. No public clause cites this module.
use Rattle.std.specs.Borrow.{Lends, Fml, RattleType, MutBor}
use Rattle.handle_table.specs.declared.slot.Slot.{Slot}
use Rattle.handle_table.specs.declared.slot.Slot.TheVariants.{Live}
use Rattle.handle_table.specs.contracts.slot.Slot.{the_row}

-- once the loan ends, the slot has the last entry written through it
abbrev pub lends_entry_of : (T : RattleType) → MutBor (Slot T.Denot) → MutBor T.Denot → Fml
lends_entry_of T slot r = Lends (the_row T) T slot r (λ w. Live w)
