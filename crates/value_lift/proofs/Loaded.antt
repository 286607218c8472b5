-- What is loaded is what stands there.
use Rattle.std.proofs.Common.{◌≡◌, ◌∙◌, ◌≤◌, ◌+◌, ◌*◌, ◌%◌, ◌<◌, ℕ, false, List, [], map, length, Ok, Err, Result, ap, sym, subst, arith}
use Rattle.std.specs.Prelude.{if◌then◌else◌, ◌==◌}
use Rattle.std.proofs.lemmas.Bool.{leb-true, eqb-true, le-leb, eq-eqb, ne_eqb, cond-true, cond-false}
use Rattle.syntax_trees.specs.declared.types.ValType.{ValType}
use Rattle.syntax_trees.specs.declared.value.Value.{Value}
use Rattle.laid_types.specs.Layout.{laid}
use Rattle.value_lift.specs.declared.counting.LiftOf.{LiftOf}
use Rattle.value_lift.specs.declared.trap.LiftTrap.{LiftTrap}
use Rattle.value_lift.specs.declared.trap.LiftWhy.TheVariants.{Misaligned, Bounds}
use Rattle.value_lift.specs.Bytes.{is_aligned, is_inside}
use Rattle.value_lift.specs.Answers.{Lifted, trap, value_of}
use Rattle.syntax_trees.specs.Flat.{flat}
use Rattle.value_lift.specs.Lifting.{lift, lift_words, part, load, load_list, lift_flat, most}
use Rattle.value_lift.specs.WordStanding.{AreWords, FlatOf}
use Rattle.value_lift.specs.Pieces.{elements_from, elements_of}
use Rattle.value_lift.specs.Standing.{AreElements, total, counts}
use Rattle.value_lift.specs.Laws.{LiftedValuesStand, StandingValuesAreLifted, IsLoaded, LoadedValuesStand, AreLoaded, LoadedListsStand, IsLifted, LiftedWordsStand}
use Rattle.value_lift.proofs.Passing.{ok_same, if_ok}
use Rattle.value_lift.proofs.Stood.{stood, elements_stood}
use Rattle.value_lift.proofs.Found.{elements_found}
use Rattle.value_lift.proofs.TypesFound.{told_type}
use Rattle.value_lift.proofs.Wrapped.{wrapped_same, words_many}
use Rattle.value_lift.proofs.WordStood.{IsThere, word_stood}
use Rattle.value_lift.proofs.WordTypes.{word_told_type}

pub lifted_values_stand : LiftedValuesStand
lifted_values_stand type memory place left rest v h =
    let f = told_type type memory place left rest v h in
    (f.stands, f.count)

pub standing_values_are_lifted : StandingValuesAreLifted
standing_values_are_lifted type memory place left v s h = stood s left h

value_was : (l : Lifted Value) (v : Value) → value_of l ≡ Ok v → (rest : ℕ) × (l ≡ Ok (v, rest))
value_was (Ok x) v h = (x.1, ap (λ (w : Value). (let r : Lifted Value = Ok (w, x.1) in r)) (ok_same x.0 v h))
value_was (Err e) v h = cc

module _ (what : LiftOf) (type : ValType) (memory : List ℕ) (place : ℕ) (v : Value) where
  abbrev answer : Result Value LiftTrap
  answer = value_of (lift type memory place (most what))

  abbrev bounded : Result Value LiftTrap
  bounded = if is_inside place (laid type).size memory then answer else Err (trap Bounds place)

  loaded : load what type memory place ≡ Ok v → IsLoaded what type memory place v
  loaded h =
      let p = if_ok (is_aligned place (laid type).align) bounded (trap Misaligned place) v h in
      let q = if_ok (is_inside place (laid type).size memory) answer (trap Bounds place) v p.1 in
      let w = value_was (lift type memory place (most what)) v q.1 in
      let f = told_type type memory place (most what) w.0 v w.1 in
      record {
        stored = record {
          aligned = eqb-true (place % (laid type).align) 0 p.0;
          inside = leb-true (place + (laid type).size) (length memory) q.0;
          stands = f.stands;
        };
        few = omega (arith, f.count);
      }

  standing : IsLoaded what type memory place v → load what type memory place ≡ Ok v
  standing i =
      cond-true (is_aligned place (laid type).align) bounded (Err (trap Misaligned place)) (eq-eqb (place % (laid type).align) 0 i.stored.aligned)
      ∙ cond-true (is_inside place (laid type).size memory) answer (Err (trap Bounds place)) (le-leb (place + (laid type).size) (length memory) i.stored.inside)
      ∙ ap (λ (l : Lifted Value). value_of l) (stood i.stored.stands (most what) i.few)

pub loaded_values_stand : LoadedValuesStand
loaded_values_stand what type memory place v = (loaded what type memory place v, standing what type memory place v)

-- lists
elements_were : (l : Lifted (List Value)) (all : List Value) → value_of l ≡ Ok all → (rest : ℕ) × (l ≡ Ok (all, rest))
elements_were (Ok x) all h = (x.1, ap (λ (w : List Value). (let r : Lifted (List Value) = Ok (w, x.1) in r)) (ok_same x.0 all h))
elements_were (Err e) all h = cc

not_none : (count : ℕ) → 0 < count → (count == 0) ≡ false
not_none count h = ne_eqb count 0 (λ e. omega (arith, e, h))

module _ (type : ValType) (memory : List ℕ) (place count : ℕ) (all : List Value) (low : 0 < count) where
  abbrev elements : Lifted (List Value)
  elements = elements_from (part type) memory [] count place 134217728

  abbrev within : Lifted (List Value)
  within = if is_inside place (count * (laid type).size) memory then elements else Err (trap Bounds place)

  abbrev listed : Result (List Value) LiftTrap
  listed = value_of (elements_of (part type) place count memory place 134217728)

  some : load_list type memory place count ≡ listed
  some = cond-false (count == 0) (Ok []) listed (not_none count low)

  loaded_all : load_list type memory place count ≡ Ok all → AreLoaded type memory place count all
  loaded_all h =
      let w = elements_were (elements_of (part type) place count memory place 134217728) all (sym some ∙ h) in
      let p = if_ok (is_aligned place (laid type).align) within (trap Misaligned place) (all, w.0) w.1 in
      let q = if_ok (is_inside place (count * (laid type).size) memory) elements (trap Bounds place) (all, w.0) p.1 in
      let e = elements_found type (told_type type) memory [] all count place 134217728 w.0 q.1 in
      let same : e.values ≡ all = sym e.all_is in
      let many : length all ≡ count = ap (λ (l : List Value). length l) (sym same) ∙ e.many in
      let inside : place + count * (laid type).size ≤ length memory = leb-true (place + count * (laid type).size) (length memory) q.0 in
      record {
        many = many;
        stored = record {
          aligned = eqb-true (place % (laid type).align) 0 p.0;
          inside = subst (λ (n : ℕ). place + n * (laid type).size ≤ length memory) (sym many) inside;
          stand = subst (λ (l : List Value). AreElements memory place type l) same e.are;
        };
        few = subst (λ (l : List Value). total (map counts l) ≤ 134217728) same (omega (arith, e.count));
      }

  all_stand : AreLoaded type memory place count all → load_list type memory place count ≡ Ok all
  all_stand i =
      let room : place + count * (laid type).size ≤ length memory = subst (λ (n : ℕ). place + n * (laid type).size ≤ length memory) i.many i.stored.inside in
      some
      ∙ ap (λ (l : Lifted (List Value)). value_of l)
      (cond-true (is_aligned place (laid type).align) within (Err (trap Misaligned place)) (eq-eqb (place % (laid type).align) 0 i.stored.aligned)
      ∙ cond-true (is_inside place (count * (laid type).size) memory) elements (Err (trap Bounds place)) (le-leb (place + count * (laid type).size) (length memory) room)
      ∙ ap (λ (n : ℕ). elements_from (part type) memory [] n place 134217728) (sym i.many)
      ∙ elements_stood i.stored.stand [] 134217728 i.few)

pub loaded_lists_stand : LoadedListsStand
loaded_lists_stand type memory place count all low = (loaded_all type memory place count all low, all_stand type memory place count all low)

-- core values
module _ (what : LiftOf) (type : ValType) (memory words : List ℕ) (v : Value) (are : AreWords (flat type) words) where
  lifted : lift_flat what type memory words ≡ Ok v → IsLifted what type memory words v
  lifted h =
      let w = value_was (lift_words type memory words 0 (most what)) v h in
      let many = words_many (flat type) words are in
      let f = word_told_type type memory words 0 (most what) w.0 v (omega (arith, many)) w.1 in
      record {
        flattened = record { typed = are; stands = subst (λ (l : List ℕ). FlatOf memory type v l) (wrapped_same (flat type) words are) f.stands };
        few = omega (arith, f.count);
      }

  stand_for : IsLifted what type memory words v → lift_flat what type memory words ≡ Ok v
  stand_for i =
      let many = words_many (flat type) words are in
      let there : IsThere type memory words 0 words = record { are = sym (wrapped_same (flat type) words are); room = omega (arith, many) } in
      ap (λ (l : Lifted Value). value_of l) (word_stood i.flattened.stands words 0 (most what) there i.few)

pub lifted_words_stand : LiftedWordsStand
lifted_words_stand what type memory words v are = (lifted what type memory words v are, stand_for what type memory words v are)
