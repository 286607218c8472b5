-- What a table ends as, where a `&mut` to one of its entries is lent.
use Rattle.std.specs.Prelude.{ℕ, Option}
use Rattle.std.specs.Borrow.{Lends, LendsIf, Fml, RattleType, MutBor}
use Rattle.handle_table.specs.Slots.{TableState, with_entry}
use Rattle.handle_table.specs.contracts.table.Table.{the_row}

module _ {T : Type 0} where
  abbrev pub with_write : TableState T → ℕ → T → TableState T
  with_write t index entry = record t { slots = with_entry index entry t.slots }

-- once the loan ends, the index has the last entry written through it
abbrev pub lends_live_entry : (T : RattleType) → MutBor (TableState T.Denot) → ℕ → MutBor T.Denot → Fml
lends_live_entry T t index r = Lends (the_row T) T t r (with_write t.now index)

-- the same where something is lent; where nothing is, the table stays
abbrev pub lends_entry : (T : RattleType) → MutBor (TableState T.Denot) → ℕ → Option (MutBor T.Denot) → Fml
lends_entry T t index r = LendsIf (the_row T) T t r (with_write t.now index) t.now
