-- What the calls of a table answer and leave (Component Model, CanonicalABI.md, "Table State").
use Rattle.std.specs.Prelude.{◌≡◌, ℕ, ◌+◌, ◌<◌, ◌≤◌}
use Rattle.handle_table.specs.History.{most_live}
use Rattle.handle_table.specs.Slots.{TableState, count, next_of, added}
use Rattle.handle_table.specs.declared.refusal.AddError.{AddError}
use Rattle.handle_table.specs.declared.refusal.AddError.TheVariants.{Full, Memory}

module _ {E : Type 0} where
  -- an entry was added at this index: at most one add less can be made without memory than before
  pub record Added (old : TableState E) (entry : E) (given : ℕ) (new : TableState E) : Type 0 where
    pub few : count old.slots < most_live
    pub index : given ≡ next_of old.slots
    pub slots : new.slots ≡ added entry old.slots
    pub spare : old.spare ≤ new.spare + 1

  -- none was added: the table is full, or there is no memory for one more; the entry is handed back
  abbrev pub NotAdded : TableState E → E → AddError E → TableState E → Type 0
  NotAdded old entry (Full given) new = (count old.slots ≡ most_live) × (given ≡ entry) × (new ≡ old)
  NotAdded old entry (Memory given) new = (count old.slots < most_live) × (old.spare ≡ 0) × (given ≡ entry) × (new.slots ≡ old.slots)
