-- What holds of every run of calls over a table.
use Rattle.std.specs.Prelude.{◌≡◌, ◌≢◌, ℕ, ◌+◌, ◌<◌, ◌≤◌, List, ◌∷◌, Option, Some, None}
use Rattle.handle_table.specs.History.{most_live}
use Rattle.handle_table.specs.Slots.{Slots, entry_at, count, next_of, added, removed, with_entry}
use Rattle.res_handles.specs.declared.handle.Ownership.{Ownership}
use Rattle.res_handles.specs.declared.handle.Ownership.TheVariants.{Own, Borrow}
use Rattle.res_handles.specs.declared.entry.EntryView.{EntryView}
use Rattle.res_handles.specs.declared.entry.EntryView.TheVariants as seen
use Rattle.res_handles.specs.Calls.{lends_in, view_at, shown}
use Rattle.res_handles.specs.Runs.{Call, LowersOwn, LowersBorrow, LiftsOwn, LiftsBorrow, Drops, AddsOther, RemovesOther, WritesOther, IsOther, slots_after, IsRun, ComesOf, open_loans, borrows_of, risen, fallen}

-- The lends of a handle are the loans of its index that were begun and not ended.
abbrev pub LendsAreOpenLoans : Type 0
LendsAreOpenLoans = (run : List Call) (index : ℕ) → IsRun run → lends_in (entry_at (slots_after run) index) ≡ open_loans index run

-- Where one is open, the handle is neither lifted as own nor dropped.
abbrev pub LentIsKept : Type 0
LentIsKept =
    (run : List Call) (index resource : ℕ) → 1 ≤ open_loans index run
    → (IsRun (LiftsOwn index resource ∷ run) → ⊥) × (IsRun (Drops index resource ∷ run) → ⊥)

-- Where nothing is live, none is open.
abbrev pub NothingRemovedIsLent : Type 0
NothingRemovedIsLent =
    (run : List Call) (index : ℕ) → IsRun run → entry_at (slots_after run) index ≡ None → open_loans index run ≡ 0

-- A task has one borrow handle more where one is lowered for it, one less where one of its is dropped, and else as many as before.
abbrev pub BorrowsChange : Type 0
BorrowsChange =
    (run : List Call) (call : Call) (task : ℕ) → IsRun (call ∷ run)
    → borrows_of task (slots_after (call ∷ run)) + fallen task call (slots_after run) ≡ borrows_of task (slots_after run) + risen task call

-- an entry is a handle of this resource, with this representation and ownership
abbrev pub IsHandle : ℕ → ℕ → Ownership → Option EntryView → Type 0
IsHandle resource rep ownership None = ⊥
IsHandle resource rep ownership (Some seen.Other) = ⊥
IsHandle resource rep ownership (Some (seen.ReadableEnd _)) = ⊥
IsHandle resource rep ownership (Some (seen.Handle x)) = (x.resource ≡ resource) × (x.rep ≡ rep) × (x.ownership ≡ ownership)

-- of this resource, with any
abbrev pub IsOfResource : ℕ → Option EntryView → Type 0
IsOfResource resource entry = (rep : ℕ) × (ownership : Ownership) × IsHandle resource rep ownership entry

-- What is lowered is a handle of the resource, the representation and the task that were given, at the index that is next.
abbrev pub LoweredIsAsGiven : Type 0
LoweredIsAsGiven =
    (run : List Call) (resource rep task : ℕ)
    → (IsRun (LowersOwn resource rep ∷ run) → IsHandle resource rep Own (entry_at (slots_after (LowersOwn resource rep ∷ run)) (next_of (slots_after run))))
    × (IsRun (LowersBorrow resource rep task ∷ run) → IsHandle resource rep (Borrow task) (entry_at (slots_after (LowersBorrow resource rep task ∷ run)) (next_of (slots_after run))))

-- A handle stays, and stays what it is, where it is neither lifted as own nor dropped.
abbrev pub HandlesStay : Type 0
HandlesStay =
    (run : List Call) (call : Call) (index resource rep : ℕ) (ownership : Ownership) → IsRun (call ∷ run)
    → ((r : ℕ) → call ≢ LiftsOwn index r) → ((r : ℕ) → call ≢ Drops index r)
    → IsHandle resource rep ownership (entry_at (slots_after run) index) → IsHandle resource rep ownership (entry_at (slots_after (call ∷ run)) index)

-- What is lifted, lent or dropped is a handle of the resource that was asked for, and own where it is lifted as own.
abbrev pub TakenIsAsAsked : Type 0
TakenIsAsAsked =
    (run : List Call) (index resource : ℕ)
    → (IsRun (LiftsOwn index resource ∷ run) → (rep : ℕ) × IsHandle resource rep Own (entry_at (slots_after run) index))
    × (IsRun (LiftsBorrow index resource ∷ run) → IsOfResource resource (entry_at (slots_after run) index))
    × (IsRun (Drops index resource ∷ run) → IsOfResource resource (entry_at (slots_after run) index))

-- Entries that are no handles come and go beside the handles: where one is added, removed or written over, the run has one call
-- more.
pub record OthersComeAndGo {E : Type 0} (view : E → EntryView) : Type 0 where
  pub adds : (r : List Call) (s : Slots E) (entry : E) → IsOther (Some (view entry)) → count s < most_live
      → ComesOf r (shown view s) → ComesOf (AddsOther (view entry) ∷ r) (shown view (added entry s))
  pub removes : (r : List Call) (s : Slots E) (index : ℕ) → IsOther (view_at view s index)
      → ComesOf r (shown view s) → ComesOf (RemovesOther index ∷ r) (shown view (removed index s))
  pub writes : (r : List Call) (s : Slots E) (index : ℕ) (entry : E) → IsOther (Some (view entry)) → IsOther (view_at view s index)
      → ComesOf r (shown view s) → ComesOf (WritesOther index (view entry) ∷ r) (shown view (with_entry index entry s))
