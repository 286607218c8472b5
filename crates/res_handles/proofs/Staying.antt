-- A handle stays what it was lowered as, and is of the resource that is asked for.
use Rattle.std.proofs.Common.{◌≡◌, ◌≢◌, ℕ, suc, ◌+◌, ◌-◌, sym, ap, refl, ◌∙◌, arith, subst, Bool, true, false, nat_eq, if◌then◌else◌, List, [], ◌∷◌, ◌++◌, length, Option, Some, None, Result, Ok, Err, inl, inr}
use Rattle.std.specs.Prelude.{IsOk}
use Rattle.std.proofs.lemmas.Bool.{cases_eq, ne_eqb}
use Rattle.std.proofs.lemmas.List.{get_or_push}
use Rattle.handle_table.specs.History.{next_in}
use Rattle.handle_table.specs.Slots.{Slots, slot_at, filled, added, removed, with_entry, entry_at, next_of}
use Rattle.handle_table.specs.Sound.{AreFree, IsSound}
use Rattle.handle_table.proofs.Places.{same_slot, other_slot}
use Rattle.res_handles.specs.declared.handle.Handle.{Handle}
use Rattle.res_handles.specs.declared.handle.Ownership.{Ownership}
use Rattle.res_handles.specs.declared.handle.Ownership.TheVariants.{Own, Borrow}
use Rattle.res_handles.specs.declared.entry.EntryView.{EntryView}
use Rattle.res_handles.specs.declared.entry.EntryView.TheVariants as seen
use Rattle.res_handles.specs.declared.refusal.Refusal.{Refusal}
use Rattle.res_handles.specs.declared.refusal.Refusal.TheVariants.{OtherType}
use Rattle.res_handles.specs.Refusals.{unlent, owned, owned_by, that_is, handle_in, own_in, dropped_in}
use Rattle.res_handles.specs.Calls.{own_handle, borrow_handle, with_lends, relent_by, view_at}
use Rattle.res_handles.specs.Runs.{Call, LowersOwn, LowersBorrow, LiftsOwn, LiftsBorrow, Drops, EndsLend, AddsOther, RemovesOther, WritesOther, IsOther, Passes, after, slots_after, IsRun}
use Rattle.res_handles.specs.Laws.{IsHandle, IsOfResource}
use Rattle.res_handles.proofs.Found.{IsFound, handle_found, passed}
use Rattle.res_handles.proofs.Sound.{lent_found, relent_is, run_sound, written_here, added_at}

-- what was lowered
next_filled : (entries : List (Option EntryView)) (free : List ℕ) (entry : EntryView) → AreFree entries free
    → slot_at (filled entries free entry) (next_in free (length entries)) ≡ Some entry
next_filled entries [] entry f =
    let next : length entries + 1 ≡ suc (length entries) = omega arith in
    ap (λ (k : ℕ). slot_at (entries ++ Some entry ∷ []) k) next ∙ get_or_push entries (Some entry) None (length entries) refl
next_filled entries (index ∷ free) entry f = same_slot entries index (Some entry) f.0.given f.0.within

lowered : (run : List Call) (x : Handle) → IsRun run → IsHandle x.resource x.rep x.ownership (entry_at (added (seen.Handle x) (slots_after run)) (next_of (slots_after run)))
lowered run x p =
    let s : Slots EntryView = slots_after run in
    let P : Option EntryView → Type 0 = λ o. IsHandle x.resource x.rep x.ownership o in
    subst P (sym (next_filled s.entries s.freed (seen.Handle x) (run_sound run p).free)) (refl, refl, refl)

pub lowered_own : (run : List Call) (resource rep : ℕ) → IsRun (LowersOwn resource rep ∷ run) → IsHandle resource rep Own (entry_at (slots_after (LowersOwn resource rep ∷ run)) (next_of (slots_after run)))
lowered_own run resource rep p = lowered run (own_handle resource rep) p.0

pub lowered_borrow : (run : List Call) (resource rep task : ℕ) → IsRun (LowersBorrow resource rep task ∷ run)
    → IsHandle resource rep (Borrow task) (entry_at (slots_after (LowersBorrow resource rep task ∷ run)) (next_of (slots_after run)))
lowered_borrow run resource rep task p = lowered run (borrow_handle resource rep task) p.0

-- what stays
module _ (resource rep : ℕ) (ownership : Ownership) where
  abbrev Is : Option EntryView → Type 0
  Is o = IsHandle resource rep ownership o

  not_none : (entry : Option EntryView) → entry ≡ None → Is entry → ⊥
  not_none entry e h = subst Is e h

  not_other : (entry : Option EntryView) → IsOther entry → Is entry → ⊥
  not_other None o h = h
  not_other (Some (seen.Handle x)) o h = o
  not_other (Some (seen.ReadableEnd x)) o h = h
  not_other (Some seen.Other) o h = h

  stays_added : (s : Slots EntryView) (entry : EntryView) (index : ℕ) → IsSound s → Is (entry_at s index) → Is (entry_at (added entry s) index)
  stays_added s entry index sound h = elim (added_at s entry index sound) [
    | inl filled ↦ absurd (not_none (entry_at s index) filled.empty h)
    | inr same ↦ subst Is (sym same) h
  ]

  stays_removed : (s : Slots EntryView) (i index : ℕ) → index ≢ i → Is (entry_at s index) → Is (entry_at (removed i s) index)
  stays_removed s i index ne h = subst Is (sym (other_slot s.entries i index None ne)) h

  stays_relent : (s : Slots EntryView) (f : ℕ → ℕ) (i index : ℕ) → IsFound (entry_at s i) → Is (entry_at s index) → Is (entry_at (relent_by (view_at (λ e. e) s i) seen.Handle f i s) index)
  stays_relent s f i index found h =
      let x : Handle = found.handle in
      let y : Handle = with_lends (f x.lends) x in
      let t : Slots EntryView = relent_by (view_at (λ e. e) s i) seen.Handle f i s in
      let is : entry_at t index ≡ entry_at (with_entry i (seen.Handle y) s) index = ap (λ (u : Slots EntryView). entry_at u index) (relent_is s f i x found.is) in
      elim (cases_eq index i) [
        | inl same ↦ (let before : Is (Some (seen.Handle x)) = subst Is (ap (λ (j : ℕ). entry_at s j) same ∙ found.is) h in
            let now : entry_at t index ≡ Some (seen.Handle y) = is ∙ ap (λ (j : ℕ). entry_at (with_entry i (seen.Handle y) s) j) same ∙ written_here s i (seen.Handle x) (seen.Handle y) found.is in
            subst Is (sym now) before)
        | inr other ↦ subst Is (sym (is ∙ other_slot s.entries i index (Some (seen.Handle y)) other)) h
      ]

  -- where an entry that is no handle is, none is removed or written over
  elsewhere : (s : Slots EntryView) (i index : ℕ) → IsOther (entry_at s i) → Is (entry_at s index) → index ≢ i
  elsewhere s i index o h = λ e. not_other (entry_at s i) o (subst Is (ap (λ (j : ℕ). entry_at s j) e) h)

  call_stays : (call : Call) (s : Slots EntryView) (index : ℕ) → Passes call s → IsSound s → ((r : ℕ) → call ≢ LiftsOwn index r) → ((r : ℕ) → call ≢ Drops index r)
      → Is (entry_at s index) → Is (entry_at (after call s) index)
  call_stays (LowersOwn r n) s index p sound a b h = stays_added s (seen.Handle (own_handle r n)) index sound h
  call_stays (LowersBorrow r n t) s index p sound a b h = stays_added s (seen.Handle (borrow_handle r n t)) index sound h
  call_stays (LiftsOwn i r) s index p sound a b h = stays_removed s i index (λ e. a r (ap (λ (j : ℕ). LiftsOwn j r) (sym e))) h
  call_stays (LiftsBorrow i r) s index p sound a b h = stays_relent s (λ n. n + 1) i index (handle_found (entry_at s i) r p) h
  call_stays (Drops i r) s index p sound a b h = stays_removed s i index (λ e. b r (ap (λ (j : ℕ). Drops j r) (sym e))) h
  call_stays (EndsLend i) s index p sound a b h = stays_relent s (λ n. n - 1) i index (lent_found (entry_at s i) p) h
  call_stays (AddsOther entry) s index p sound a b h = stays_added s entry index sound h
  call_stays (RemovesOther i) s index p sound a b h = stays_removed s i index (elsewhere s i index p h) h
  call_stays (WritesOther i entry) s index p sound a b h = subst Is (sym (other_slot s.entries i index (Some entry) (elsewhere s i index p.1 h))) h

pub handle_stays : (run : List Call) (call : Call) (index resource rep : ℕ) (ownership : Ownership) → IsRun (call ∷ run)
    → ((r : ℕ) → call ≢ LiftsOwn index r) → ((r : ℕ) → call ≢ Drops index r)
    → IsHandle resource rep ownership (entry_at (slots_after run) index) → IsHandle resource rep ownership (entry_at (slots_after (call ∷ run)) index)
handle_stays run call index resource rep ownership p = call_stays resource rep ownership call (slots_after run) index p.1 (run_sound run p.0)

-- what is asked for
was_true : (b : Bool) (x : Handle) (test : Handle → Result Handle Refusal) → IsOk (that_is test (if b then Ok x else Err OtherType)) → b ≡ true
was_true true x test h = refl
was_true false x test h = cc

was_so : (b : Bool) (x : Handle) → IsOk (let r : Result Handle Refusal = if b then Ok x else Err OtherType in r) → b ≡ true
was_so true x h = refl
was_so false x h = cc

equal : (n m : ℕ) → nat_eq n m ≡ true → n ≡ m
equal n m e = elim (cases_eq n m) [
  | inl same ↦ same
  | inr ne ↦ (let no : nat_eq n m ≡ false = ne_eqb n m ne in let bad : true ≡ false = sym e ∙ no in cc)
]

tested : (x : Handle) (resource : ℕ) (test : Handle → Result Handle Refusal) → IsOk (that_is test (if nat_eq x.resource resource then Ok x else Err OtherType)) → x.resource ≡ resource
tested x resource test h = equal x.resource resource (was_true (nat_eq x.resource resource) x test h)

is_own : (o : Ownership) (x : Handle) → IsOk (owned_by o x) → o ≡ Own
is_own Own x h = refl
is_own (Borrow t) x h = cc

found_of : (entry : Option EntryView) (resource : ℕ) → IsOk (handle_in entry resource) → IsOfResource resource entry
found_of None resource h = cc
found_of (Some seen.Other) resource h = cc
found_of (Some (seen.ReadableEnd _)) resource h = cc
found_of (Some (seen.Handle x)) resource h = (x.rep, x.ownership, (equal x.resource resource (was_so (nat_eq x.resource resource) x h), refl, refl))

own_of : (entry : Option EntryView) (resource : ℕ) → IsOk (own_in entry resource) → (rep : ℕ) × IsHandle resource rep Own entry
own_of None resource h = cc
own_of (Some seen.Other) resource h = cc
own_of (Some (seen.ReadableEnd _)) resource h = cc
own_of (Some (seen.Handle x)) resource h =
    (x.rep, (tested x resource owned h, refl, is_own x.ownership x (passed (nat_eq x.resource resource) x OtherType owned h)))

dropped_of : (entry : Option EntryView) (resource : ℕ) → IsOk (dropped_in entry resource) → IsOfResource resource entry
dropped_of None resource h = cc
dropped_of (Some seen.Other) resource h = cc
dropped_of (Some (seen.ReadableEnd _)) resource h = cc
dropped_of (Some (seen.Handle x)) resource h = (x.rep, x.ownership, (tested x resource unlent h, refl, refl))

pub lifted_own : (run : List Call) (index resource : ℕ) → IsRun (LiftsOwn index resource ∷ run) → (rep : ℕ) × IsHandle resource rep Own (entry_at (slots_after run) index)
lifted_own run index resource p = own_of (entry_at (slots_after run) index) resource p.1

pub lifted_borrow : (run : List Call) (index resource : ℕ) → IsRun (LiftsBorrow index resource ∷ run) → IsOfResource resource (entry_at (slots_after run) index)
lifted_borrow run index resource p = found_of (entry_at (slots_after run) index) resource p.1

pub dropped : (run : List Call) (index resource : ℕ) → IsRun (Drops index resource ∷ run) → IsOfResource resource (entry_at (slots_after run) index)
dropped run index resource p = dropped_of (entry_at (slots_after run) index) resource p.1
