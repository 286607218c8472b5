-- A history whose entry at an index is another one.
use Rattle.std.proofs.Common.{◌≡◌, ◌≢◌, ℕ, zero, suc, ◌+◌, ◌≤◌, max, sym, ap, refl, ◌∙◌, arith, subst, Bool, true, false, nat_eq, if◌then◌else◌, List, [], ◌∷◌, length, Option, Some, None, is_some, IsSome, inl, inr, eq-eqb}
use Rattle.std.specs.List.{count_by}
use Rattle.std.proofs.lemmas.Bool.{cases_eq, ne_eqb}
use Rattle.handle_table.specs.History.{Event, Add, Remove, without, next_in, live, greatest, freed, next_index, slots_up_to, slots_of, live_count, IsHistory}
use Rattle.handle_table.specs.Slots.{Slots, with_slot, with_entry, StandsFor}
use Rattle.handle_table.specs.Laws.{with_changed}
use Rattle.handle_table.proofs.Places.{one_if, count_push, full_within}
use Rattle.handle_table.proofs.Histories.{event_other, set_slots, slots_length, entries_seen, some_of, same_record, Left, left_by}

-- at an add of this index, and of another one
changed_here : {E : Type 0} (index : ℕ) (now entry : E) (h : List (Event E)) (i : ℕ) → i ≡ index → with_changed index now (Add i entry ∷ h) ≡ Add i now ∷ h
changed_here {E} index now entry h i e = ap (λ (b : Bool). if b then (let g : List (Event E) = Add i now ∷ h in g) else Add i entry ∷ with_changed index now h) (eq-eqb i index e)

changed_later : {E : Type 0} (index : ℕ) (now entry : E) (h : List (Event E)) (i : ℕ) → (i ≡ index → ⊥) → with_changed index now (Add i entry ∷ h) ≡ Add i entry ∷ with_changed index now h
changed_later {E} index now entry h i ne = ap (λ (b : Bool). if b then (let g : List (Event E) = Add i now ∷ h in g) else Add i entry ∷ with_changed index now h) (ne_eqb i index ne)

-- what stays
same_freed : {E : Type 0} (index : ℕ) (now : E) (h : List (Event E)) → freed (with_changed index now h) ≡ freed h
same_freed index now [] = refl
same_freed {E} index now (Add i entry ∷ h) = elim (cases_eq i index) [
  | inl e ↦ ap freed (changed_here index now entry h i e)
  | inr ne ↦ (ap freed (changed_later index now entry h i ne) ∙ ap (without i) (same_freed index now h))
]
same_freed index now (Remove i ∷ h) = ap (λ (xs : List ℕ). i ∷ without i xs) (same_freed index now h)

same_greatest : {E : Type 0} (index : ℕ) (now : E) (h : List (Event E)) → greatest (with_changed index now h) ≡ greatest h
same_greatest index now [] = refl
same_greatest {E} index now (Add i entry ∷ h) = elim (cases_eq i index) [
  | inl e ↦ ap greatest (changed_here index now entry h i e)
  | inr ne ↦ (ap greatest (changed_later index now entry h i ne) ∙ ap (max i) (same_greatest index now h))
]
same_greatest index now (Remove i ∷ h) = same_greatest index now h

if_same : {A : Type 0} (b : Bool) (x y z w : Option A) → is_some x ≡ is_some y → is_some z ≡ is_some w → is_some (if b then x else z) ≡ is_some (if b then y else w)
if_same true x y z w e f = e
if_same false x y z w e f = f

same_some : {E : Type 0} (index : ℕ) (now : E) (h : List (Event E)) (j : ℕ) → is_some (live (with_changed index now h) j) ≡ is_some (live h j)
same_some index now [] j = refl
same_some {E} index now (Add i entry ∷ h) j = elim (cases_eq i index) [
  | inl e ↦ (ap (λ (g : List (Event E)). is_some (live g j)) (changed_here index now entry h i e) ∙ if_same (nat_eq i j) (Some now) (Some entry) (live h j) (live h j) refl refl)
  | inr ne ↦ (ap (λ (g : List (Event E)). is_some (live g j)) (changed_later index now entry h i ne) ∙ if_same (nat_eq i j) (Some entry) (Some entry) (live (with_changed index now h) j) (live h j) refl (same_some index now h j))
]
same_some index now (Remove i ∷ h) j = if_same (nat_eq i j) None None (live (with_changed index now h) j) (live h j) refl (same_some index now h j)

same_next : {E : Type 0} (index : ℕ) (now : E) (h : List (Event E)) → next_index (with_changed index now h) ≡ next_index h
same_next index now h = ap (λ (xs : List ℕ). next_in xs (greatest (with_changed index now h))) (same_freed index now h) ∙ ap (next_in (freed h)) (same_greatest index now h)

count_up_to : {E : Type 0} (h g : List (Event E)) (n : ℕ) → ((j : ℕ) → is_some (live g j) ≡ is_some (live h j)) → count_by is_some (slots_up_to g n) ≡ count_by is_some (slots_up_to h n)
count_up_to h g zero e = refl
count_up_to h g (suc n) e =
    count_push (slots_up_to g n) (live g (suc n))
    ∙ ap (λ (k : ℕ). k + one_if (is_some (live g (suc n)))) (count_up_to h g n e)
    ∙ ap (λ (b : Bool). count_by is_some (slots_up_to h n) + one_if b) (e (suc n))
    ∙ sym (count_push (slots_up_to h n) (live h (suc n)))

same_count : {E : Type 0} (index : ℕ) (now : E) (h : List (Event E)) → live_count (with_changed index now h) ≡ live_count h
same_count {E} index now h =
    let g : List (Event E) = with_changed index now h in
    ap (λ (n : ℕ). count_by is_some (slots_up_to g n)) (same_greatest index now h) ∙ count_up_to h g (greatest h) (same_some index now h)

-- it is a history
still_history : {E : Type 0} (index : ℕ) (now : E) (h : List (Event E)) → IsHistory h → IsHistory (with_changed index now h)
still_history index now [] p = tt
still_history {E} index now (Add i entry ∷ h) p =
    let P : List (Event E) → Type 0 = λ g. IsHistory g in
    elim (cases_eq i index) [
      | inl e ↦ subst P (sym (changed_here index now entry h i e)) (p.0, p.1, p.2)
      | inr ne ↦ subst P (sym (changed_later index now entry h i ne))
          (still_history index now h p.0, p.1 ∙ sym (same_next index now h), omega (arith, p.2, same_count index now h))
    ]
still_history {E} index now (Remove i ∷ h) p = (still_history index now h p.0, same_some index now h i ∙ p.1)

-- what is live there
changed_live : {E : Type 0} (index : ℕ) (now : E) (h : List (Event E)) → IsSome (live h index) → live (with_changed index now h) index ≡ Some now
changed_live index now [] s = cc
changed_live {E} index now (Add i entry ∷ h) s = elim (cases_eq i index) [
  | inl e ↦ (ap (λ (g : List (Event E)). live g index) (changed_here index now entry h i e) ∙ ap (λ (b : Bool). if b then Some now else live h index) (eq-eqb i index e))
  | inr ne ↦ (ap (λ (g : List (Event E)). live g index) (changed_later index now entry h i ne) ∙ event_other i index (Some entry) (live (with_changed index now h) index) ne
      ∙ changed_live index now h (ap is_some (sym (event_other i index (Some entry) (live h index) ne)) ∙ s))
]
changed_live {E} index now (Remove i ∷ h) s = elim (cases_eq i index) [
  | inl e ↦ (let none : IsSome (let o : Option E = None in o) = ap is_some (sym (ap (λ (b : Bool). if b then None else live h index) (eq-eqb i index e))) ∙ s in cc)
  | inr ne ↦ (event_other i index None (live (with_changed index now h) index) ne ∙ changed_live index now h (ap is_some (sym (event_other i index None (live h index) ne)) ∙ s))
]

others_live : {E : Type 0} (index : ℕ) (now : E) (h : List (Event E)) (j : ℕ) → j ≢ index → live (with_changed index now h) j ≡ live h j
others_live index now [] j ne = refl
others_live {E} index now (Add i entry ∷ h) j ne = elim (cases_eq i index) [
  | inl e ↦ (let apart : i ≢ j = λ same. ne (sym same ∙ e) in
      ap (λ (g : List (Event E)). live g j) (changed_here index now entry h i e) ∙ event_other i j (Some now) (live h j) apart ∙ sym (event_other i j (Some entry) (live h j) apart))
  | inr other ↦ (ap (λ (g : List (Event E)). live g j) (changed_later index now entry h i other) ∙ ap (λ (o : Option E). if nat_eq i j then Some entry else o) (others_live index now h j ne))
]
others_live {E} index now (Remove i ∷ h) j ne = ap (λ (o : Option E). if nat_eq i j then None else o) (others_live index now h j ne)

written_slots : {E : Type 0} (index : ℕ) (now : E) (h : List (Event E)) → IsSome (live h index) → 1 ≤ index → index ≤ greatest h → slots_of (with_changed index now h) ≡ with_slot (slots_of h) index (Some now)
written_slots zero now h s l w = absurd (omega arith)
written_slots {E} (suc k) now h s l w =
    let g : List (Event E) = with_changed (suc k) now h in
    ap (λ (n : ℕ). slots_up_to g n) (same_greatest (suc k) now h)
    ∙ set_slots h g (greatest h) k (Some now) (omega arith) (changed_live (suc k) now h s) (λ j ne. others_live (suc k) now h (suc j) (λ same. ne (omega arith)))

pub writes_after : {E : Type 0} (h : List (Event E)) (s : Slots E) (index : ℕ) (now : E) → IsSome (live h index) → StandsFor h s → StandsFor (with_changed index now h) (with_entry index now s)
writes_after {E} h s index now some st =
    let l : Left h = left_by h st.history in
    let found : (entry : E) × (live h index ≡ Some entry) = some_of (live h index) some in
    let w : (1 ≤ index) × (index ≤ length (slots_of h)) = full_within (slots_of h) index found.0 (entries_seen h index l.zeroth ∙ found.1) in
    let within : index ≤ greatest h = omega (arith, w.1, slots_length h (greatest h)) in
    record {
      history = still_history index now h st.history;
      slots = ap (λ (x : Slots E). with_entry index now x) st.slots
          ∙ sym (same_record (slots_of (with_changed index now h)) (with_slot (slots_of h) index (Some now)) (freed (with_changed index now h)) (freed h)
          (written_slots index now h some w.0 within) (same_freed index now h));
    }
