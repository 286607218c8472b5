-- Runs of calls over a table, as seen by what its entries are (Component Model, CanonicalABI.md, "Resource State"). A run has the
-- latest call first, and no call that was refused. Loans and borrows are counted from the calls and the table alone.
use Rattle.std.specs.Prelude.{◌≡◌, ℕ, ◌-◌, ◌<◌, ◌≤◌, Bool, false, nat_eq, if◌then◌else◌, List, [], ◌∷◌, count_by, Option, Some, None, IsOk}
use Rattle.handle_table.specs.History.{most_live}
use Rattle.handle_table.specs.Slots.{Slots, no_slots, entry_at, count, added, removed, with_entry}
use Rattle.res_handles.specs.declared.handle.Ownership.{Ownership}
use Rattle.res_handles.specs.declared.handle.Ownership.TheVariants.{Own, Borrow}
use Rattle.res_handles.specs.declared.entry.EntryView.{EntryView}
use Rattle.res_handles.specs.declared.entry.EntryView.TheVariants as seen
use Rattle.res_handles.specs.Refusals.{handle_in, own_in, dropped_in}
use Rattle.res_handles.specs.Calls.{own_handle, borrow_handle, lends_in, lent, given_back}

pub data Call : Type 0 where
  -- a handle was lowered: its resource and representation, and of a borrow the task
  LowersOwn : ℕ → ℕ → Call
  LowersBorrow : ℕ → ℕ → ℕ → Call
  -- the handle at an index, of a resource, was lifted or dropped
  LiftsOwn : ℕ → ℕ → Call
  LiftsBorrow : ℕ → ℕ → Call
  Drops : ℕ → ℕ → Call
  -- a borrow that was lifted from the handle at an index came to its end
  EndsLend : ℕ → Call
  -- an entry that is no handle was added; the one at an index was removed, or another was written over it
  AddsOther : EntryView → Call
  RemovesOther : ℕ → Call
  WritesOther : ℕ → EntryView → Call

-- an entry that is no handle
abbrev pub IsOther : Option EntryView → Type 0
IsOther None = ⊥
IsOther (Some (seen.Handle _)) = ⊥
IsOther (Some (seen.ReadableEnd _)) = Unit {0}
IsOther (Some seen.Other) = Unit {0}

-- a call that isn't refused
abbrev pub Passes : Call → Slots EntryView → Type 0
Passes (LowersOwn resource rep) s = count s < most_live
Passes (LowersBorrow resource rep task) s = count s < most_live
Passes (LiftsOwn index resource) s = IsOk (own_in (entry_at s index) resource)
Passes (LiftsBorrow index resource) s = IsOk (handle_in (entry_at s index) resource)
Passes (Drops index resource) s = IsOk (dropped_in (entry_at s index) resource)
Passes (EndsLend index) s = 1 ≤ lends_in (entry_at s index)
Passes (AddsOther entry) s = IsOther (Some entry) × (count s < most_live)
Passes (RemovesOther index) s = IsOther (entry_at s index)
Passes (WritesOther index entry) s = IsOther (Some entry) × IsOther (entry_at s index)

-- the slots after it
abbrev pub after : Call → Slots EntryView → Slots EntryView
after (LowersOwn resource rep) s = added (seen.Handle (own_handle resource rep)) s
after (LowersBorrow resource rep task) s = added (seen.Handle (borrow_handle resource rep task)) s
after (LiftsOwn index resource) s = removed index s
after (LiftsBorrow index resource) s = lent (λ e. e) seen.Handle index s
after (Drops index resource) s = removed index s
after (EndsLend index) s = given_back (λ e. e) seen.Handle index s
after (AddsOther entry) s = added entry s
after (RemovesOther index) s = removed index s
after (WritesOther index entry) s = with_entry index entry s

-- the slots after a run
abbrev pub slots_after : List Call → Slots EntryView
slots_after [] = no_slots
slots_after (call ∷ earlier) = after call (slots_after earlier)

abbrev pub IsRun : List Call → Type 0
IsRun [] = Unit {0}
IsRun (call ∷ earlier) = IsRun earlier × Passes call (slots_after earlier)

-- these slots may come of this run
pub record ComesOf (r : List Call) (s : Slots EntryView) : Type 0 where
  pub run : IsRun r
  pub slots : s ≡ slots_after r

-- a call begins a loan of the handle at an index, or ends one
abbrev pub begins : ℕ → Call → Bool
begins index (LowersOwn _ _) = false
begins index (LowersBorrow _ _ _) = false
begins index (LiftsOwn _ _) = false
begins index (LiftsBorrow i _) = nat_eq i index
begins index (Drops _ _) = false
begins index (EndsLend _) = false
begins index (AddsOther _) = false
begins index (RemovesOther _) = false
begins index (WritesOther _ _) = false

abbrev pub ends : ℕ → Call → Bool
ends index (LowersOwn _ _) = false
ends index (LowersBorrow _ _ _) = false
ends index (LiftsOwn _ _) = false
ends index (LiftsBorrow _ _) = false
ends index (Drops _ _) = false
ends index (EndsLend i) = nat_eq i index
ends index (AddsOther _) = false
ends index (RemovesOther _) = false
ends index (WritesOther _ _) = false

-- the loans of an index that were begun and not ended
abbrev pub open_loans : ℕ → List Call → ℕ
open_loans index run = count_by (begins index) run - count_by (ends index) run

-- a slot has a borrow handle of a task
abbrev pub is_for : ℕ → Ownership → Bool
is_for task Own = false
is_for task (Borrow t) = nat_eq t task

abbrev pub is_borrow_of : ℕ → Option EntryView → Bool
is_borrow_of task None = false
is_borrow_of task (Some seen.Other) = false
is_borrow_of task (Some (seen.ReadableEnd _)) = false
is_borrow_of task (Some (seen.Handle x)) = is_for task x.ownership

-- the live borrow handles of a task
abbrev pub borrows_of : ℕ → Slots EntryView → ℕ
borrows_of task s = count_by (is_borrow_of task) s.entries

-- by how much a call lets them rise, and fall
abbrev pub one_if : Bool → ℕ
one_if b = if b then 1 else 0

abbrev pub risen : ℕ → Call → ℕ
risen task (LowersOwn _ _) = 0
risen task (LowersBorrow _ _ t) = one_if (nat_eq t task)
risen task (LiftsOwn _ _) = 0
risen task (LiftsBorrow _ _) = 0
risen task (Drops _ _) = 0
risen task (EndsLend _) = 0
risen task (AddsOther _) = 0
risen task (RemovesOther _) = 0
risen task (WritesOther _ _) = 0

abbrev pub fallen : ℕ → Call → Slots EntryView → ℕ
fallen task (LowersOwn _ _) s = 0
fallen task (LowersBorrow _ _ _) s = 0
fallen task (LiftsOwn _ _) s = 0
fallen task (LiftsBorrow _ _) s = 0
fallen task (Drops index _) s = one_if (is_borrow_of task (entry_at s index))
fallen task (EndsLend _) s = 0
fallen task (AddsOther _) s = 0
fallen task (RemovesOther _) s = 0
fallen task (WritesOther _ _) s = 0
