-- The lends of a handle are the open loans of its index.
use Rattle.std.proofs.Common.{◌≡◌, ◌≢◌, ℕ, zero, suc, ◌+◌, ◌-◌, ◌≤◌, sym, ap, refl, ◌∙◌, arith, nat_eq, List, [], ◌∷◌, Some, None, inl, inr, eq-eqb}
use Rattle.std.specs.List.{count_by}
use Rattle.std.proofs.lemmas.Bool.{cases_eq, ne_eqb}
use Rattle.std.proofs.lemmas.List.Sums.{sum_by-cons}
use Rattle.handle_table.specs.Slots.{Slots, added, removed, with_entry, entry_at}
use Rattle.handle_table.specs.Sound.{IsSound}
use Rattle.handle_table.proofs.Places.{other_slot}
use Rattle.res_handles.specs.declared.handle.Handle.{Handle}
use Rattle.res_handles.specs.declared.entry.EntryView.{EntryView}
use Rattle.res_handles.specs.declared.entry.EntryView.TheVariants as seen
use Rattle.res_handles.specs.Calls.{own_handle, borrow_handle, lends_in, with_lends, relent_by, view_at}
use Rattle.res_handles.specs.Runs.{Call, LowersOwn, LowersBorrow, LiftsOwn, LiftsBorrow, Drops, EndsLend, AddsOther, RemovesOther, WritesOther, Passes, after, slots_after, IsRun, begins, ends, open_loans, one_if}
use Rattle.res_handles.proofs.Found.{IsFound, IsKept, handle_found, own_kept, dropped_kept, IsOtherFound, other_found}
use Rattle.res_handles.proofs.Sound.{lent_found, relent_is, run_sound, removed_here, written_here, added_at}

lends_added : (s : Slots EntryView) (entry : EntryView) (index : ℕ) → lends_in (Some entry) ≡ 0 → IsSound s → lends_in (entry_at (added entry s) index) ≡ lends_in (entry_at s index)
lends_added s entry index none sound = elim (added_at s entry index sound) [
  | inl filled ↦ (ap lends_in filled.full ∙ none ∙ sym (ap lends_in filled.empty))
  | inr same ↦ (ap lends_in same)
]

lends_removed : (s : Slots EntryView) (i index : ℕ) (entry : EntryView) → entry_at s i ≡ Some entry → lends_in (entry_at s i) ≡ 0 → lends_in (entry_at (removed i s) index) ≡ lends_in (entry_at s index)
lends_removed s i index entry e none = elim (cases_eq index i) [
  | inl same ↦ (ap (λ (j : ℕ). lends_in (entry_at (removed i s) j)) same ∙ ap lends_in (removed_here s i entry e) ∙ sym none ∙ sym (ap (λ (j : ℕ). lends_in (entry_at s j)) same))
  | inr other ↦ (ap lends_in (other_slot s.entries i index None other))
]

lends_written : (s : Slots EntryView) (i index : ℕ) (entry now : EntryView) → entry_at s i ≡ Some entry → lends_in (entry_at s i) ≡ 0 → lends_in (Some now) ≡ 0 → lends_in (entry_at (with_entry i now s) index) ≡ lends_in (entry_at s index)
lends_written s i index entry now e none new = elim (cases_eq index i) [
  | inl same ↦ (ap (λ (j : ℕ). lends_in (entry_at (with_entry i now s) j)) same ∙ ap lends_in (written_here s i entry now e) ∙ new ∙ sym none ∙ sym (ap (λ (j : ℕ). lends_in (entry_at s j)) same))
  | inr other ↦ (ap lends_in (other_slot s.entries i index (Some now) other))
]

relent_here : (s : Slots EntryView) (f : ℕ → ℕ) (i : ℕ) (found : IsFound (entry_at s i)) → lends_in (entry_at (relent_by (view_at (λ e. e) s i) seen.Handle f i s) i) ≡ f (lends_in (entry_at s i))
relent_here s f i found =
    let x : Handle = found.handle in
    ap (λ (t : Slots EntryView). lends_in (entry_at t i)) (relent_is s f i x found.is)
    ∙ ap lends_in (written_here s i (seen.Handle x) (seen.Handle (with_lends (f x.lends) x)) found.is)
    ∙ ap f (sym (ap lends_in found.is))

relent_other : (s : Slots EntryView) (f : ℕ → ℕ) (i index : ℕ) (found : IsFound (entry_at s i)) → index ≢ i → lends_in (entry_at (relent_by (view_at (λ e. e) s i) seen.Handle f i s) index) ≡ lends_in (entry_at s index)
relent_other s f i index found ne =
    let x : Handle = found.handle in
    ap (λ (t : Slots EntryView). lends_in (entry_at t index)) (relent_is s f i x found.is)
    ∙ ap lends_in (other_slot s.entries i index (Some (seen.Handle (with_lends (f x.lends) x))) ne)

-- what each call changes
lifts : (s : Slots EntryView) (i index resource : ℕ) → IsFound (entry_at s i) → lends_in (entry_at (after (LiftsBorrow i resource) s) index) ≡ lends_in (entry_at s index) + one_if (nat_eq i index)
lifts s i index resource found = elim (cases_eq index i) [
  | inl same ↦ (let one : one_if (nat_eq i index) ≡ 1 = ap one_if (eq-eqb i index (sym same)) in
      let here : lends_in (entry_at (after (LiftsBorrow i resource) s) i) ≡ lends_in (entry_at s i) + 1 = relent_here s (λ n. n + 1) i found in
      let a : lends_in (entry_at (after (LiftsBorrow i resource) s) index) ≡ lends_in (entry_at (after (LiftsBorrow i resource) s) i) = ap (λ (j : ℕ). lends_in (entry_at (after (LiftsBorrow i resource) s) j)) same in
      let b : lends_in (entry_at s index) ≡ lends_in (entry_at s i) = ap (λ (j : ℕ). lends_in (entry_at s j)) same in
      omega (arith, one, here, a, b))
  | inr other ↦ (let none : one_if (nat_eq i index) ≡ 0 = ap one_if (ne_eqb i index (λ e. other (sym e))) in
      omega (arith, none, relent_other s (λ n. n + 1) i index found other))
]

gives_back : (s : Slots EntryView) (i index : ℕ) → 1 ≤ lends_in (entry_at s i) → lends_in (entry_at (after (EndsLend i) s) index) + one_if (nat_eq i index) ≡ lends_in (entry_at s index)
gives_back s i index some = elim (cases_eq index i) [
  | inl same ↦ (let one : one_if (nat_eq i index) ≡ 1 = ap one_if (eq-eqb i index (sym same)) in
      let here : lends_in (entry_at (after (EndsLend i) s) i) ≡ lends_in (entry_at s i) - 1 = relent_here s (λ n. n - 1) i (lent_found (entry_at s i) some) in
      let a : lends_in (entry_at (after (EndsLend i) s) index) ≡ lends_in (entry_at (after (EndsLend i) s) i) = ap (λ (j : ℕ). lends_in (entry_at (after (EndsLend i) s) j)) same in
      let b : lends_in (entry_at s index) ≡ lends_in (entry_at s i) = ap (λ (j : ℕ). lends_in (entry_at s j)) same in
      omega (arith, one, here, a, b, some))
  | inr other ↦ (let none : one_if (nat_eq i index) ≡ 0 = ap one_if (ne_eqb i index (λ e. other (sym e))) in
      omega (arith, none, relent_other s (λ n. n - 1) i index (lent_found (entry_at s i) some) other))
]

kept : (s : Slots EntryView) (i index : ℕ) → IsKept (entry_at s i) → lends_in (entry_at (removed i s) index) ≡ lends_in (entry_at s index)
kept s i index k = lends_removed s i index (seen.Handle k.found.handle) k.found.is k.lends

pub call_lends : (call : Call) (s : Slots EntryView) (index : ℕ) → Passes call s → IsSound s → lends_in (entry_at (after call s) index) + one_if (ends index call) ≡ lends_in (entry_at s index) + one_if (begins index call)
call_lends (LowersOwn resource rep) s index p sound = omega (arith, lends_added s (seen.Handle (own_handle resource rep)) index refl sound)
call_lends (LowersBorrow resource rep task) s index p sound = omega (arith, lends_added s (seen.Handle (borrow_handle resource rep task)) index refl sound)
call_lends (LiftsOwn i resource) s index p sound = omega (arith, kept s i index (own_kept (entry_at s i) resource p))
call_lends (LiftsBorrow i resource) s index p sound = omega (arith, lifts s i index resource (handle_found (entry_at s i) resource p))
call_lends (Drops i resource) s index p sound = omega (arith, kept s i index (dropped_kept (entry_at s i) resource p))
call_lends (EndsLend i) s index p sound = omega (arith, gives_back s i index p)
call_lends (AddsOther entry) s index p sound = omega (arith, lends_added s entry index (other_found (Some entry) p.0).lends sound)
call_lends (RemovesOther i) s index p sound = let o : IsOtherFound (entry_at s i) = other_found (entry_at s i) p in omega (arith, lends_removed s i index o.other o.is o.lends)
call_lends (WritesOther i entry) s index p sound =
    let o : IsOtherFound (entry_at s i) = other_found (entry_at s i) p.1 in
    omega (arith, lends_written s i index o.other entry o.is o.lends (other_found (Some entry) p.0).lends)

balance : (r : List Call) (index : ℕ) → IsRun r → lends_in (entry_at (slots_after r) index) + count_by (ends index) r ≡ count_by (begins index) r
balance [] zero p = refl
balance [] (suc k) p = refl
balance (call ∷ r) index p =
    omega (arith, balance r index p.0, call_lends call (slots_after r) index p.1 (run_sound r p.0), sum_by-cons (λ (c : Call). one_if (ends index c)) call r, sum_by-cons (λ (c : Call). one_if (begins index c)) call r)

pub lends_counted : (r : List Call) (index : ℕ) → IsRun r → lends_in (entry_at (slots_after r) index) ≡ open_loans index r
lends_counted r index p = omega (arith, balance r index p)

pub lent_kept : (r : List Call) (index resource : ℕ) → 1 ≤ open_loans index r → (IsRun (LiftsOwn index resource ∷ r) → ⊥) × (IsRun (Drops index resource ∷ r) → ⊥)
lent_kept r index resource some = (
  λ p. (let k : IsKept (entry_at (slots_after r) index) = own_kept (entry_at (slots_after r) index) resource p.1 in let none : lends_in (entry_at (slots_after r) index) ≡ 0 = k.lends in omega (arith, some, none, lends_counted r index p.0)),
  λ p. (let k : IsKept (entry_at (slots_after r) index) = dropped_kept (entry_at (slots_after r) index) resource p.1 in let none : lends_in (entry_at (slots_after r) index) ≡ 0 = k.lends in omega (arith, some, none, lends_counted r index p.0)),
)

pub removed_not_lent : (r : List Call) (index : ℕ) → IsRun r → entry_at (slots_after r) index ≡ None → open_loans index r ≡ 0
removed_not_lent r index p e = sym (lends_counted r index p) ∙ ap lends_in e
