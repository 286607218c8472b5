-- Every run leaves a sound table; what is at an index after an add, a removal and a write.
use Rattle.std.proofs.Common.{◌≡◌, ℕ, zero, suc, ◌+◌, ◌-◌, ◌≤◌, sym, ap, refl, ◌∙◌, arith, subst, List, [], ◌∷◌, ◌++◌, length, Option, Some, None, ◌⊎◌, inl, inr, length-append}
use Rattle.std.specs.Prelude.{option_map}
use Rattle.std.proofs.lemmas.Bool.{cases_lt, cases_eq}
use Rattle.std.proofs.lemmas.List.{get_or_push}
use Rattle.handle_table.specs.Slots.{Slots, slot_at, with_slot, filled, added, removed, with_entry, entry_at}
use Rattle.handle_table.specs.Sound.{AreFree, IsSound}
use Rattle.handle_table.proofs.Places.{same_slot, other_slot, full_within, slot_before, slot_past}
use Rattle.handle_table.proofs.Soundness.{added_sound, removed_sound, changed_sound}
use Rattle.res_handles.specs.declared.handle.Handle.{Handle}
use Rattle.res_handles.specs.declared.entry.EntryView.{EntryView}
use Rattle.res_handles.specs.declared.entry.EntryView.TheVariants as seen
use Rattle.res_handles.specs.Calls.{own_handle, borrow_handle, lends_in, with_lends, relent_by, view_at}
use Rattle.res_handles.specs.Runs.{Call, LowersOwn, LowersBorrow, LiftsOwn, LiftsBorrow, Drops, EndsLend, AddsOther, RemovesOther, WritesOther, Passes, after, slots_after, IsRun}
use Rattle.res_handles.proofs.Found.{IsFound, IsKept, handle_found, own_kept, dropped_kept, IsOtherFound, other_found}

-- a handle with a lend is a handle
pub lent_found : (entry : Option EntryView) → 1 ≤ lends_in entry → IsFound entry
lent_found None h = absurd (let l : 1 ≤ 0 = h in omega arith)
lent_found (Some seen.Other) h = absurd (let l : 1 ≤ 0 = h in omega arith)
lent_found (Some (seen.ReadableEnd _)) h = absurd (let l : 1 ≤ 0 = h in omega arith)
lent_found (Some (seen.Handle x)) h = record { handle = x; is = refl }

-- the slots where the lends of a handle that is there are changed
pub relent_is : (s : Slots EntryView) (f : ℕ → ℕ) (index : ℕ) (x : Handle) → entry_at s index ≡ Some (seen.Handle x)
    → relent_by (view_at (λ e. e) s index) seen.Handle f index s ≡ with_entry index (seen.Handle (with_lends (f x.lends) x)) s
relent_is s f index x e = ap (λ (o : Option EntryView). relent_by (option_map (λ e. e) o) seen.Handle f index s) e

relent_sound : (s : Slots EntryView) (f : ℕ → ℕ) (index : ℕ) → IsFound (entry_at s index) → IsSound s → IsSound (relent_by (view_at (λ e. e) s index) seen.Handle f index s)
relent_sound s f index found sound =
    let P : Slots EntryView → Type 0 = λ t. IsSound t in
    let x : Handle = found.handle in
    subst P (sym (relent_is s f index x found.is)) (changed_sound s index (seen.Handle x) (seen.Handle (with_lends (f x.lends) x)) found.is sound)

kept_sound : (s : Slots EntryView) (index : ℕ) → IsKept (entry_at s index) → IsSound s → IsSound (removed index s)
kept_sound s index kept sound = removed_sound s index (seen.Handle kept.found.handle) kept.found.is sound

call_sound : (call : Call) (s : Slots EntryView) → Passes call s → IsSound s → IsSound (after call s)
call_sound (LowersOwn resource rep) s p sound = added_sound s (seen.Handle (own_handle resource rep)) p sound
call_sound (LowersBorrow resource rep task) s p sound = added_sound s (seen.Handle (borrow_handle resource rep task)) p sound
call_sound (LiftsOwn index resource) s p sound = kept_sound s index (own_kept (entry_at s index) resource p) sound
call_sound (LiftsBorrow index resource) s p sound = relent_sound s (λ n. n + 1) index (handle_found (entry_at s index) resource p) sound
call_sound (Drops index resource) s p sound = kept_sound s index (dropped_kept (entry_at s index) resource p) sound
call_sound (EndsLend index) s p sound = relent_sound s (λ n. n - 1) index (lent_found (entry_at s index) p) sound
call_sound (AddsOther entry) s p sound = added_sound s entry p.1 sound
call_sound (RemovesOther index) s p sound = let o : IsOtherFound (entry_at s index) = other_found (entry_at s index) p in removed_sound s index o.other o.is sound
call_sound (WritesOther index entry) s p sound = let o : IsOtherFound (entry_at s index) = other_found (entry_at s index) p.1 in changed_sound s index o.other entry o.is sound

pub run_sound : (r : List Call) → IsRun r → IsSound (slots_after r)
run_sound [] p = record { free = tt; all = omega arith; small = omega arith }
run_sound (call ∷ r) p = call_sound call (slots_after r) p.1 (run_sound r p.0)

-- at an index
module _ {E : Type 0} where
  pushed_length : (entries : List (Option E)) (slot : Option E) → length (entries ++ slot ∷ []) ≡ length entries + 1
  pushed_length entries slot = length-append entries (slot ∷ [])

  pub removed_here : (s : Slots E) (index : ℕ) (entry : E) → entry_at s index ≡ Some entry → entry_at (removed index s) index ≡ None
  removed_here s index entry e = let w : (1 ≤ index) × (index ≤ length s.entries) = full_within s.entries index entry e in same_slot s.entries index None w.0 w.1

  pub written_here : (s : Slots E) (index : ℕ) (entry now : E) → entry_at s index ≡ Some entry → entry_at (with_entry index now s) index ≡ Some now
  written_here s index entry now e = let w : (1 ≤ index) × (index ≤ length s.entries) = full_within s.entries index entry e in same_slot s.entries index (Some now) w.0 w.1

  -- an add: what was empty has the entry, or nothing changed
  pub record IsFilled (before after : Option E) (entry : E) : Type 0 where
    pub empty : before ≡ None
    pub full : after ≡ Some entry

  filled_at : (entries : List (Option E)) (free : List ℕ) (entry : E) (index : ℕ) → AreFree entries free
      → IsFilled (slot_at entries index) (slot_at (filled entries free entry) index) entry ⊎ (slot_at (filled entries free entry) index ≡ slot_at entries index)
  filled_at entries [] entry zero f = inr refl
  filled_at entries [] entry (suc k) f = elim (cases_lt k (length entries)) [
    | inl less ↦ inr (slot_before entries (Some entry) (suc k) (omega (arith, less)))
    | inr more ↦ (elim (cases_eq k (length entries)) [
      | inl e ↦ inl (record { empty = slot_past entries (suc k) (omega (arith, e)); full = get_or_push entries (Some entry) None k (sym e) })
      | inr ne ↦ inr (slot_past (entries ++ Some entry ∷ []) (suc k) (omega (arith, more, ne, pushed_length entries (Some entry))) ∙ sym (slot_past entries (suc k) (omega (arith, more))))
    ])
  ]
  filled_at entries (i ∷ free) entry index f = elim (cases_eq index i) [
    | inl e ↦ (let P : ℕ → Type 0 = λ j. IsFilled (slot_at entries j) (slot_at (with_slot entries i (Some entry)) j) entry in
        inl (subst P (sym e) (record { empty = f.0.empty; full = same_slot entries i (Some entry) f.0.given f.0.within })))
    | inr ne ↦ inr (other_slot entries i index (Some entry) ne)
  ]

  pub added_at : (s : Slots E) (entry : E) (index : ℕ) → IsSound s → IsFilled (entry_at s index) (entry_at (added entry s) index) entry ⊎ (entry_at (added entry s) index ≡ entry_at s index)
  added_at s entry index sound = filled_at s.entries s.freed entry index sound.free
