-- What the calls make of a table (Component Model, CanonicalABI.md, "Resource State", `lift_borrow`, `lower_own` and
-- `lower_borrow`).
use Rattle.std.specs.Prelude.{◌≡◌, ℕ, ◌+◌, ◌-◌, ◌<◌, Bool, nat_eq, List, map, Option, Some, None, option_map}
use Rattle.std.specs.List.{list_any}
use Rattle.handle_table.specs.History.{most_live}
use Rattle.handle_table.specs.Slots.{Slots, TableState, entry_at, with_entry, count}
use Rattle.res_handles.specs.declared.handle.Handle.{Handle}
use Rattle.res_handles.specs.declared.handle.Ownership.TheVariants.{Own, Borrow}
use Rattle.res_handles.specs.declared.entry.EntryView.{EntryView}
use Rattle.res_handles.specs.declared.entry.EntryView.TheVariants as seen
use Rattle.res_handles.specs.declared.refusal.LowerError.{LowerError}
use Rattle.res_handles.specs.declared.refusal.LowerError.TheVariants.{TableFull, Memory}

-- new handles
abbrev pub own_handle : ℕ → ℕ → Handle
own_handle resource rep = record { resource = resource; rep = rep; lends = 0; ownership = Own }

abbrev pub borrow_handle : ℕ → ℕ → ℕ → Handle
borrow_handle resource rep task = record { resource = resource; rep = rep; lends = 0; ownership = Borrow task }

-- the same handle with another number of lends
abbrev pub with_lends : ℕ → Handle → Handle
with_lends n x = record { resource = x.resource; rep = x.rep; lends = n; ownership = x.ownership }

-- a resource is one of those that an instance defines
abbrev pub is_defined : ℕ → List ℕ → Bool
is_defined resource resources = list_any (λ r. nat_eq r resource) resources

-- the lends of the handle that an entry is
abbrev pub lends_in : Option EntryView → ℕ
lends_in None = 0
lends_in (Some seen.Other) = 0
lends_in (Some (seen.ReadableEnd _)) = 0
lends_in (Some (seen.Handle x)) = x.lends

module _ {E : Type 0} where
  -- what the entry at an index is
  abbrev pub view_at : (E → EntryView) → Slots E → ℕ → Option EntryView
  view_at view s index = option_map view (entry_at s index)

  -- the slots with what their entries are
  abbrev pub shown : (E → EntryView) → Slots E → Slots EntryView
  shown view s = record { entries = map (option_map view) s.entries; freed = s.freed }

  -- the slots where the lends of the handle at an index are changed
  abbrev pub relent_by : Option EntryView → (Handle → E) → (ℕ → ℕ) → ℕ → Slots E → Slots E
  relent_by None made f index s = s
  relent_by (Some seen.Other) made f index s = s
  relent_by (Some (seen.ReadableEnd _)) made f index s = s
  relent_by (Some (seen.Handle x)) made f index s = with_entry index (made (with_lends (f x.lends) x)) s

  -- where they are one more,
  abbrev pub lent : (E → EntryView) → (Handle → E) → ℕ → Slots E → Slots E
  lent view made index s = relent_by (view_at view s index) made (λ n. n + 1) index s

  -- and one less
  abbrev pub given_back : (E → EntryView) → (Handle → E) → ℕ → Slots E → Slots E
  given_back view made index s = relent_by (view_at view s index) made (λ n. n - 1) index s

  -- no handle was lowered: the table is full, or there is no memory for one more
  abbrev pub NotLowered : TableState E → LowerError → TableState E → Type 0
  NotLowered old TableFull new = (count old.slots ≡ most_live) × (new ≡ old)
  NotLowered old Memory new = (count old.slots < most_live) × (old.spare ≡ 0) × (new.slots ≡ old.slots)
