-- No handle of an instance is lent more often than this, as entries are added and removed.
use Rattle.std.proofs.Common.{◌≡◌, ◌≤◌, ℕ, Option, Some, None, ap, sym, subst}
use Rattle.std.specs.Prelude.{MatchOption}
use Rattle.res_handles.specs.Calls.{lends_in}
use Rattle.value_lift.specs.Tables.{MostLends}
use Rattle.instances.specs.declared.entry.WorldEntry.{WorldEntry}
use Rattle.instances.specs.Entries.{seen_as}
use Rattle.instances.specs.Instances.{InstanceView, entry_added, entry_removed}
use Rattle.table_texts.proofs.Loans.{added_most, removed_most}

pub added_few : (most : ℕ) (old new : InstanceView) (e : WorldEntry) → new ≡ entry_added e old → lends_in (Some (seen_as e)) ≤ most → MostLends seen_as most old.slots → MostLends seen_as most new.slots
added_few most old new e is few h = added_most seen_as most old.slots new.slots e (ap (λ (i : InstanceView). i.slots) is) few h

pub removed_few : (most : ℕ) (old new : InstanceView) (index : ℕ) (r : Option WorldEntry) → MatchOption r (new ≡ old) (λ _. new ≡ entry_removed index old) → MostLends seen_as most old.slots → MostLends seen_as most new.slots
removed_few most old new index None same h = subst (λ (i : InstanceView). MostLends seen_as most i.slots) (sym same) h
removed_few most old new index (Some x) is h = removed_most seen_as most old.slots new.slots index (ap (λ (i : InstanceView). i.slots) is) h
