-- What is loaded or lifted is one value or one fault.
use Rattle.std.proofs.Common.{◌≡◌, ◌∙◌, ◌≤◌, ◌+◌, ◌%◌, ◌<◌, ◌↔◌, ◌⊎◌, ℕ, List, [], length, Ok, Err, Result, refl, ap, sym, subst, arith, inl, inr}
use Rattle.std.specs.Prelude.{if◌then◌else◌, ◌==◌}
use Rattle.std.proofs.lemmas.Bool.{leb-true, leb-false, eqb-true, eqb-false, le-leb, lt-leb, eq-eqb, ne_eqb, cond-true, cond-false, cases_lt}
use Rattle.syntax_trees.specs.declared.types.ValType.{ValType}
use Rattle.syntax_trees.specs.declared.value.Value.{Value}
use Rattle.laid_types.specs.Layout.{laid}
use Rattle.syntax_trees.specs.Flat.{flat}
use Rattle.value_lift.specs.declared.counting.LiftOf.{LiftOf}
use Rattle.value_lift.specs.declared.trap.LiftTrap.{LiftTrap}
use Rattle.value_lift.specs.declared.trap.LiftWhy.{LiftWhy}
use Rattle.value_lift.specs.declared.trap.LiftWhy.TheVariants.{Misaligned, Bounds}
use Rattle.value_lift.specs.Bytes.{is_aligned, is_inside}
use Rattle.value_lift.specs.Answers.{Lifted, trap, value_of}
use Rattle.value_lift.specs.Lifting.{lift, lift_words, part, load, load_list, lift_flat, most}
use Rattle.value_lift.specs.Pieces.{elements_of}
use Rattle.value_lift.specs.WordStanding.{AreWords}
use Rattle.value_lift.specs.Failing.{ElementFails, LoadFails, LoadListFails, this_element, later_element, place_misaligned, place_outside, value_fails, all_misaligned, all_outside, one_fails}
use Rattle.value_lift.specs.WordFailing.{FlatFails, LiftFlatFails}
use Rattle.value_lift.specs.Laws.{IsLoaded, AreLoaded, IsLifted, FailingValuesStop, FailingLoadsStop, FailingListsStop, FailingWordsStop, OneOrFault, OneIsLoaded, OneListIsLoaded, OneIsLifted}
use Rattle.value_lift.proofs.Failed.{failed, element_failed, elements_astray, elements_past, elements_inside}
use Rattle.value_lift.proofs.Loaded.{loaded_values_stand, loaded_lists_stand, lifted_words_stand}
use Rattle.value_lift.proofs.Passing.{ok_same}
use Rattle.value_lift.proofs.Stopped.{list_told}
use Rattle.value_lift.proofs.Stopping.{err_same, no_stop, if_err, value_err}
use Rattle.value_lift.proofs.TypesStopped.{type_stops}
use Rattle.value_lift.proofs.WordFailed.{word_failed}
use Rattle.value_lift.proofs.WordStood.{IsThere}
use Rattle.value_lift.proofs.Wrapped.{wrapped_same, words_many}

pub failing_values_stop : FailingValuesStop
failing_values_stop type memory place left why spot = (λ h. (type_stops type).stops memory place left (trap why spot) h, λ f. failed f)

-- values
module _ (what : LiftOf) (type : ValType) (memory : List ℕ) (place : ℕ) where
  abbrev answer : Result Value LiftTrap
  answer = value_of (lift type memory place (most what))

  abbrev bounded : Result Value LiftTrap
  bounded = if is_inside place (laid type).size memory then answer else Err (trap Bounds place)

  load_stops : (e : LiftTrap) → load what type memory place ≡ Err e → LoadFails what type memory place e.why e.place
  load_stops e h =
      elim (if_err (is_aligned place (laid type).align) bounded (trap Misaligned place) e h) [
        | inr p ↦ subst (λ (e : LiftTrap). LoadFails what type memory place e.why e.place) p.1 (place_misaligned (eqb-false (place % (laid type).align) 0 p.0))
        | inl p ↦
            let even : place % (laid type).align ≡ 0 = eqb-true (place % (laid type).align) 0 p.0 in
            elim (if_err (is_inside place (laid type).size memory) answer (trap Bounds place) e p.1) [
              | inr q ↦
                  subst (λ (e : LiftTrap). LoadFails what type memory place e.why e.place) q.1
                  (place_outside even (leb-false (place + (laid type).size) (length memory) q.0))
              | inl q ↦
                  value_fails e.why e.place even (leb-true (place + (laid type).size) (length memory) q.0)
                  ((type_stops type).stops memory place (most what) e (value_err (lift type memory place (most what)) e q.1))
            ]
      ]

  aligned_place : place % (laid type).align ≡ 0 → load what type memory place ≡ bounded
  aligned_place even = cond-true (is_aligned place (laid type).align) bounded (Err (trap Misaligned place)) (eq-eqb (place % (laid type).align) 0 even)

  load_failed : {why : LiftWhy} {spot : ℕ} → LoadFails what type memory place why spot → load what type memory place ≡ Err (trap why spot)
  load_failed (place_misaligned h) = cond-false (is_aligned place (laid type).align) bounded (Err (trap Misaligned place)) (ne_eqb (place % (laid type).align) 0 h)
  load_failed (place_outside even h) =
      aligned_place even ∙ cond-false (is_inside place (laid type).size memory) answer (Err (trap Bounds place)) (lt-leb (place + (laid type).size) (length memory) h)
  load_failed (value_fails why spot even inside f) =
      aligned_place even
      ∙ cond-true (is_inside place (laid type).size memory) answer (Err (trap Bounds place)) (le-leb (place + (laid type).size) (length memory) inside)
      ∙ ap (λ (l : Lifted Value). value_of l) (failed f)

pub failing_loads_stop : FailingLoadsStop
failing_loads_stop what type memory place why spot = (λ h. load_stops what type memory place (trap why spot) h, λ f. load_failed what type memory place f)

-- lists
some_element : {memory : List ℕ} {at : ℕ} {t : ValType} {count left : ℕ} {why : LiftWhy} {spot : ℕ} → ElementFails memory at t count left why spot → 0 < count
some_element (this_element at t count left why spot h) = omega arith
some_element (later_element at t count left v why spot s h) = omega arith

module _ (type : ValType) (memory : List ℕ) (place count : ℕ) where
  abbrev all_told : Lifted (List Value)
  all_told = elements_of (part type) place count memory place 134217728

  some : 0 < count → load_list type memory place count ≡ value_of all_told
  some low = cond-false (count == 0) (Ok []) (value_of all_told) (ne_eqb count 0 (λ e. omega (arith, e, low)))

  none : count ≤ 0 → load_list type memory place count ≡ Ok []
  none high = cond-true (count == 0) (Ok []) (value_of all_told) (eq-eqb count 0 (omega arith))

  list_stops : (e : LiftTrap) → load_list type memory place count ≡ Err e → LoadListFails type memory place count e.why e.place
  list_stops e h =
      elim (cases_lt 0 count) [
        | inl low ↦
            list_told (LoadListFails type memory place count) type (type_stops type).stops place count memory place 134217728 e
            (record {
              astray = all_misaligned low;
              past = all_outside low;
              fail = one_fails;
            })
            (value_err all_told e (sym (some low) ∙ h))
        | inr high ↦ let nothing : List Value = [] in absurd (no_stop nothing e (sym (none high) ∙ h))
      ]

  list_failed : {why : LiftWhy} {spot : ℕ} → LoadListFails type memory place count why spot → load_list type memory place count ≡ Err (trap why spot)
  list_failed (all_misaligned low h) = some low ∙ ap (λ (l : Lifted (List Value)). value_of l) (elements_astray type place count memory place 134217728 h)
  list_failed (all_outside low even h) = some low ∙ ap (λ (l : Lifted (List Value)). value_of l) (elements_past type place count memory place 134217728 even h)
  list_failed (one_fails why spot even inside f) =
      some (some_element f)
      ∙ ap (λ (l : Lifted (List Value)). value_of l) (elements_inside type place count memory place 134217728 even inside ∙ element_failed f [])

pub failing_lists_stop : FailingListsStop
failing_lists_stop type memory place count why spot = (λ h. list_stops type memory place count (trap why spot) h, λ f. list_failed type memory place count f)

-- core values
module _ (what : LiftOf) (type : ValType) (memory words : List ℕ) (why : LiftWhy) (spot : ℕ) (are : AreWords (flat type) words) where
  flat_stops : lift_flat what type memory words ≡ Err (trap why spot) → LiftFlatFails what type memory words why spot
  flat_stops h =
      let many = words_many (flat type) words are in
      subst (λ (ws : List ℕ). FlatFails memory type ws 0 (most what) why spot) (wrapped_same (flat type) words are)
      ((type_stops type).words memory words 0 (most what) (trap why spot) (omega (arith, many)) (value_err (lift_words type memory words 0 (most what)) (trap why spot) h))

  flat_failed : LiftFlatFails what type memory words why spot → lift_flat what type memory words ≡ Err (trap why spot)
  flat_failed f =
      let many = words_many (flat type) words are in
      let there : IsThere type memory words 0 words = record { are = sym (wrapped_same (flat type) words are); room = omega (arith, many) } in
      ap (λ (l : Lifted Value). value_of l) (word_failed f words there)

pub failing_words_stop : FailingWordsStop
failing_words_stop what type memory words why spot are = (flat_stops what type memory words why spot are, flat_failed what type memory words why spot are)

-- One value, or one fault.
answered : {A : Type 0} (r : Result A LiftTrap) → ((x : A) × (r ≡ Ok x)) ⊎ ((e : LiftTrap) × (r ≡ Err e))
answered (Ok x) = inl (x, refl)
answered (Err e) = inr (e, refl)

one_or_fault : {A : Type 0} (r : Result A LiftTrap) (Is : A → Type 0) (Faults : LiftWhy → ℕ → Type 0) → ((x : A) → (r ≡ Ok x) ↔ Is x)
    → ((why : LiftWhy) (spot : ℕ) → (r ≡ Err (trap why spot)) ↔ Faults why spot) → OneOrFault Is Faults
one_or_fault {A} r Is Faults is faults = record {
  some = elim (answered r) [
    | inl p ↦ inl (p.0, (is p.0).0 p.1)
    | inr p ↦ inr (p.0.why, p.0.place, (faults p.0.why p.0.place).0 p.1)
  ];
  one = λ x y a b. ok_same x y (sym ((is x).1 a) ∙ (is y).1 b);
  one_fault = λ why other spot place a b.
      let e : trap why spot ≡ trap other place = err_same {X = A} (trap why spot) (trap other place) (sym ((faults why spot).1 a) ∙ (faults other place).1 b) in
      (ap (λ (t : LiftTrap). t.why) e, ap (λ (t : LiftTrap). t.place) e);
  never_both = λ x why spot a b. no_stop x (trap why spot) (sym ((is x).1 a) ∙ (faults why spot).1 b);
}

pub one_is_loaded : OneIsLoaded
one_is_loaded what type memory place =
    one_or_fault (load what type memory place) (IsLoaded what type memory place) (LoadFails what type memory place) (loaded_values_stand what type memory place)
    (λ why spot. failing_loads_stop what type memory place why spot)

pub one_list_is_loaded : OneListIsLoaded
one_list_is_loaded type memory place count low =
    one_or_fault (load_list type memory place count) (AreLoaded type memory place count) (LoadListFails type memory place count)
    (λ all. loaded_lists_stand type memory place count all low) (λ why spot. failing_lists_stop type memory place count why spot)

pub one_is_lifted : OneIsLifted
one_is_lifted what type memory words are =
    one_or_fault (lift_flat what type memory words) (IsLifted what type memory words) (LiftFlatFails what type memory words)
    (λ v. lifted_words_stand what type memory words v are) (λ why spot. failing_words_stop what type memory words why spot are)
