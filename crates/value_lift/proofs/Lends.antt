-- How often handles are lent, where one leaves the table or is lent once more; and ends that are told by the numbers of their types.
use Rattle.std.proofs.Common.{◌≡◌, ◌∙◌, ◌+◌, ◌≤◌, ◌^◌, ℕ, zero, suc, List, length, true, Option, Some, None, refl, ap, sym, arith, ◌⊎◌, inl, inr}
use Rattle.std.specs.Prelude.{nat_eq, option_map}
use Rattle.std.specs.List.{slice_get}
use Rattle.std.proofs.lemmas.Bool.{cases_eq, cases_lt, cases_Bool}
use Rattle.std.proofs.lemmas.Bool.Decides.{Decides-eqb}
use Rattle.syntax_trees.specs.declared.types.ValType.{ValType}
use Rattle.laid_types.specs.SameTypes.{same_val, AreDistinct}
use Rattle.laid_types.proofs.SameTypes.{val_told}
use Rattle.handle_table.specs.Slots.{Slots, slot_at, with_slot, removed, with_entry}
use Rattle.handle_table.proofs.Places.{other_slot, same_slot, slot_past, length_with}
use Rattle.res_handles.specs.declared.handle.Handle.{Handle}
use Rattle.res_handles.specs.declared.entry.EntryView.{EntryView}
use Rattle.res_handles.specs.declared.entry.EntryView.TheVariants as seen
use Rattle.res_handles.specs.Calls.{with_lends, lends_in, view_at, relent_by, lent}
use Rattle.res_handles.specs.Ends.{is_of_by, TellsApart}
use Rattle.value_lift.specs.Tables.{type_in, MostLends, FewLends}

-- a slot behind a write is the one that was written, or as it was
slot_same : {E : Type 0} (entries : List (Option E)) (i j : ℕ) (slot : Option E) → j ≡ i → (slot_at (with_slot entries i slot) j ≡ slot_at entries j) ⊎ ((j ≡ i) × (slot_at (with_slot entries i slot) j ≡ slot))
slot_same entries zero j slot e = inl refl
slot_same {E} entries (suc place) j slot e = elim (cases_lt (length entries) (suc place)) [
  | inl past ↦
      inl (ap (λ (k : ℕ). slot_at (with_slot entries (suc place) slot) k) e
      ∙ slot_past (with_slot entries (suc place) slot) (suc place) (omega (arith, length_with entries (suc place) slot, past))
      ∙ sym (slot_past entries (suc place) past)
      ∙ sym (ap (λ (k : ℕ). slot_at entries k) e))
  | inr within ↦ inr (e, ap (λ (k : ℕ). slot_at (with_slot entries (suc place) slot) k) e ∙ same_slot entries (suc place) slot (omega arith) within)
]

pub slot_either : {E : Type 0} (entries : List (Option E)) (i j : ℕ) (slot : Option E) → (slot_at (with_slot entries i slot) j ≡ slot_at entries j) ⊎ ((j ≡ i) × (slot_at (with_slot entries i slot) j ≡ slot))
slot_either entries i j slot = elim (cases_eq j i) [
  | inl same ↦ slot_same entries i j slot same
  | inr other ↦ inl (other_slot entries i j slot other)
]

module _ {E : Type 0} (view : E → EntryView) where
  -- a handle less, where one leaves
  pub removed_lends : (s : Slots E) (i j : ℕ) → lends_in (view_at view (removed i s) j) ≤ lends_in (view_at view s j)
  removed_lends s i j = elim (slot_either s.entries i j None) [
    | inl same ↦ (let e : lends_in (view_at view (removed i s) j) ≡ lends_in (view_at view s j) = ap (λ (o : Option E). lends_in (option_map view o)) same in omega (arith, e))
    | inr gone ↦ (let e : lends_in (view_at view (removed i s) j) ≡ 0 = ap (λ (o : Option E). lends_in (option_map view o)) gone.1 in omega (arith, e))
  ]

  module _ (made : Handle → E) (law : (x : Handle) → view (made x) ≡ seen.Handle x) where
    -- one loan more, where one is lent
    relent_lends : (s : Slots E) (i j : ℕ) (o : Option EntryView) → view_at view s i ≡ o → lends_in (view_at view (relent_by o made (λ n. n + 1) i s) j) ≤ lends_in (view_at view s j) + 1
    relent_lends s i j None h = omega arith
    relent_lends s i j (Some seen.Other) h = omega arith
    relent_lends s i j (Some (seen.ReadableEnd x)) h = omega arith
    relent_lends s i j (Some (seen.Handle x)) h = elim (slot_either s.entries i j (Some (made (with_lends (x.lends + 1) x)))) [
      | inl same ↦
          (let e : lends_in (view_at view (with_entry i (made (with_lends (x.lends + 1) x)) s) j) ≡ lends_in (view_at view s j) = ap (λ (o : Option E). lends_in (option_map view o)) same in
          omega (arith, e))
      | inr here ↦
          (let e : lends_in (view_at view (with_entry i (made (with_lends (x.lends + 1) x)) s) j) ≡ x.lends + 1 =
          ap (λ (o : Option E). lends_in (option_map view o)) here.1 ∙ ap (λ (v : EntryView). lends_in (Some v)) (law (with_lends (x.lends + 1) x)) in
          let f : lends_in (view_at view s j) ≡ x.lends = ap (λ (k : ℕ). lends_in (view_at view s k)) here.0 ∙ ap lends_in h in
          omega (arith, e, f))
    ]

    pub lent_lends : (s : Slots E) (i j : ℕ) → lends_in (view_at view (lent view made i s) j) ≤ lends_in (view_at view s j) + 1
    lent_lends s i j = relent_lends s i j (view_at view s i) refl

    pub borrow_few : (s t : Slots E) (i : ℕ) → t ≡ lent view made i s → (n : ℕ) → FewLends view (n + 1) s → FewLends view n t
    borrow_few s t i e n few = λ j.
        let a : lends_in (view_at view t j) ≡ lends_in (view_at view (lent view made i s) j) = ap (λ (t : Slots E). lends_in (view_at view t j)) e in
        let b : lends_in (view_at view s j) + (n + 1) ≤ 2 ^ 63 + 2 ^ 28 = few j in
        omega (arith, a, b, lent_lends s i j)

  pub leaves_few : (s t : Slots E) (i : ℕ) → t ≡ removed i s → (n : ℕ) → FewLends view (n + 1) s → FewLends view n t
  leaves_few s t i e n few = λ j.
      let a : lends_in (view_at view t j) ≡ lends_in (view_at view (removed i s) j) = ap (λ (t : Slots E). lends_in (view_at view t j)) e in
      let b : lends_in (view_at view s j) + (n + 1) ≤ 2 ^ 63 + 2 ^ 28 = few j in
      omega (arith, a, b, removed_lends s i j)

  -- what may be lent, as less may be counted
  pub few_less : (s : Slots E) (n m : ℕ) → m ≤ n → FewLends view n s → FewLends view m s
  few_less s n m h few = λ j.
      let b : lends_in (view_at view s j) + n ≤ 2 ^ 63 + 2 ^ 28 = few j in
      omega (arith, h, b)

  pub few_at_first : (s : Slots E) (n : ℕ) → MostLends view (2 ^ 63) s → n ≤ 134217729 → FewLends view n s
  few_at_first s n most h = λ j.
      let b : lends_in (view_at view s j) ≤ 2 ^ 63 = most j in
      omega (arith, h, b)

-- Numbers tell types, where no type stands twice.
pub numbers_tell : TellsApart nat_eq
numbers_tell = λ a b. ((Decides-eqb a b).0, (Decides-eqb a b).1)

same_or_not : (types : List ValType) (number n : ℕ) (type : ValType) (o : Option ValType) → AreDistinct types → slice_get types number ≡ Some type → slice_get types n ≡ o
    → nat_eq n number ≡ is_of_by same_val o type
same_or_not types number n type None d there found = elim (cases_Bool (nat_eq n number)) [
  | inl is ↦
      (let e : n ≡ number = (Decides-eqb n number).0 is in
      let none : ◌≡◌ {A = Option ValType} None (Some type) = sym found ∙ ap (λ (k : ℕ). slice_get types k) e ∙ there in
      absurd (let bad : ⊥ = cc in bad))
  | inr isnt ↦ isnt
]
same_or_not types number n type (Some t) d there found = elim (cases_Bool (nat_eq n number)) [
  | inl is ↦
      (let e : n ≡ number = (Decides-eqb n number).0 is in
      let one : Some t ≡ Some type = sym found ∙ ap (λ (k : ℕ). slice_get types k) e ∙ there in
      let same : t ≡ type = cc in
      is ∙ sym ((val_told t type).1 same))
  | inr isnt ↦ elim (cases_Bool (same_val t type)) [
    | inl told ↦
        (let same : t ≡ type = (val_told t type).0 told in
        let e : n ≡ number = d n number type (found ∙ ap (λ (t : ValType). Some t) same) there in
        yes_is n number e ∙ sym told)
    | inr untold ↦ isnt ∙ sym untold
  ]
]
  where
    yes_is : (n number : ℕ) → n ≡ number → nat_eq n number ≡ true
    yes_is n number e = (Decides-eqb n number).1 e

pub told_by_number : (types : List ValType) (number : ℕ) (type : ValType) (o : Option ℕ) → AreDistinct types → slice_get types number ≡ Some type
    → is_of_by nat_eq o number ≡ is_of_by same_val (type_in types o) type
told_by_number types number type None d there = refl
told_by_number types number type (Some n) d there = same_or_not types number n type (slice_get types n) d there refl
