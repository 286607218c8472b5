-- Values whose handles have small representations, by their outer layer.
use Rattle.std.proofs.Common.{◌≡◌, ◌<◌, ◌^◌, ◌||◌, ◌∙◌, ℕ, Bool, true, false, not, nat_lt, List, [], ◌∷◌, ◌++◌, map, refl, sym, ap, subst, arith, Option, Some, None, Result, Ok, Err, if◌then◌else◌}
use Rattle.std.proofs.lemmas.Bool.Decides.{nat_tests}
use Rattle.std.specs.Str.{is_utf8}
use Rattle.syntax_trees.specs.Ends.{some_true}
use Rattle.syntax_trees.specs.declared.value.Value.{Value}
use Rattle.syntax_trees.specs.declared.value.Value.TheOpen as V
use Rattle.syntax_trees.specs.declared.value.Value.TheViews as values
use Rattle.syntax_trees.specs.declared.value.Value.TheViews.{roll-Value}
use Rattle.syntax_trees.specs.declared.value.Value.TheVariants as plain
use Rattle.syntax_trees.specs.declared.value.Value.TheFolds.{map-Value, fold-roll-Value}
use Rattle.value_lift.specs.declared.trap.LiftTrap.{LiftTrap}
use Rattle.value_lift.specs.declared.trap.LiftWhy.TheVariants.{BadChar, BadUtf8}
use Rattle.value_lift.specs.Answers.{trap}
use Rattle.value_lift.specs.Bytes.{is_scalar}
use Rattle.value_lift.specs.Pieces.{char_of, text_of}
use Rattle.abi_machine.specs.sound.Words.{big_step, has_big, AreSmall}
use Rattle.abi_machine.proofs.sound.places.Plans.{left_one, right_one}

-- a value, and one that may be there
abbrev pub IsSmall : Value → Type 0
IsSmall v = has_big v ≡ true → ⊥

abbrev pub IsSmallAny : Option Value → Type 0
IsSmallAny None = Unit {0}
IsSmallAny (Some v) = IsSmall v

abbrev big_layer : V.Value-F Value → V.Value-F Bool
big_layer w = map-Value Value Bool has_big w

pub big_is : (w : V.Value-F Value) (v : Value) → roll-Value w ≡ v → has_big v ≡ big_step (big_layer w)
big_is w v e = ap has_big (sym e) ∙ fold-roll-Value Bool big_step w

clash : {A : Type 0} (b : Bool) → b ≡ false → b ≡ true → A
clash true e f = cc
clash false e f = cc

pub small_leaf : (w : V.Value-F Value) (v : Value) → roll-Value w ≡ v → big_step (big_layer w) ≡ false → IsSmall v
small_leaf w v e none holds = clash (has_big v) (big_is w v e ∙ none) holds

-- several, and one more behind others
pub none_small : AreSmall []
none_small e = cc

either_one : (a b : Bool) → (a || b) ≡ true → (a ≡ true → ⊥) → (b ≡ true → ⊥) → ⊥
either_one true b e f g = f refl
either_one false b e f g = g e

last_one : (b : Bool) → (b || false) ≡ true → b ≡ true
last_one true e = refl
last_one false e = e

pub one_more : (all : List Value) (v : Value) → AreSmall all → IsSmall v → AreSmall (all ++ v ∷ [])
one_more [] v h k e = k (last_one (has_big v) e)
one_more (x ∷ all) v h k e =
    either_one (has_big x) (some_true (map has_big (all ++ v ∷ []))) e (λ i. h (left_one (has_big x) _ i)) (one_more all v (λ j. h (right_one (has_big x) _ j)) k)

pub small_record : (all : List Value) → AreSmall all → IsSmall (values.Record all)
small_record all h e = h (sym (big_is (V.Record all) (values.Record all) (plain.rolls-Record all)) ∙ e)

pub small_list : (all : List Value) → AreSmall all → IsSmall (values.List all)
small_list all h e = h (sym (big_is (V.List all) (values.List all) (plain.rolls-List all)) ∙ e)

pub small_variant : (n : ℕ) (payload : Option Value) → IsSmallAny payload → IsSmall (values.Variant n payload)
small_variant n None h e = clash (has_big (values.Variant n None)) (big_is (V.Variant n None) (values.Variant n None) (plain.rolls-Variant n None)) e
small_variant n (Some v) h e = h (sym (big_is (V.Variant n (Some v)) (values.Variant n (Some v)) (plain.rolls-Variant n (Some v))) ∙ e)

-- Handles.
below : (n m : ℕ) → n < m → nat_lt n m ≡ true
below n m h = grind (arith, nat_tests)

pub is_below : (n m : ℕ) → (not (nat_lt n m) ≡ true → ⊥) → n < m
is_below n m h = by (nat_lt n m) refl
  where
    less : nat_lt n m ≡ true → n < m
    less e = grind (arith, nat_tests)

    by : (b : Bool) → nat_lt n m ≡ b → n < m
    by true e = less e
    by false e = absurd (h (ap not e))

pub small_own : (resource rep : ℕ) → rep < 2 ^ 32 → IsSmall (plain.Own (record { resource = resource; rep = rep }))
small_own resource rep h =
    small_leaf (V.Own (record { resource = resource; rep = rep })) _ (plain.rolls-Own (record { resource = resource; rep = rep })) (ap not (below rep (2 ^ 32) h))

pub small_borrow : (resource rep : ℕ) → rep < 2 ^ 32 → IsSmall (plain.Borrow (record { resource = resource; rep = rep }))
small_borrow resource rep h =
    small_leaf (V.Borrow (record { resource = resource; rep = rep })) _ (plain.rolls-Borrow (record { resource = resource; rep = rep })) (ap not (below rep (2 ^ 32) h))

-- Values that are lifted alone.
ok_same : (x y : Value) → (let r : Result Value LiftTrap = Ok x in r) ≡ Ok y → x ≡ y
ok_same x y e = cc

pub leaf_came : (w : V.Value-F Value) (x v : Value) → roll-Value w ≡ x → big_step (big_layer w) ≡ false → (let r : Result Value LiftTrap = Ok x in r) ≡ Ok v → IsSmall v
leaf_came w x v rolls none e = subst IsSmall (ok_same x v e) (small_leaf w x rolls none)

pub char_came : (n place : ℕ) (v : Value) → char_of n place ≡ Ok v → IsSmall v
char_came n place v e = by (is_scalar n) e
  where
    by : (b : Bool) → (if b then Ok (plain.Char n) else Err (trap BadChar place)) ≡ Ok v → IsSmall v
    by true f = leaf_came (V.Char n) (plain.Char n) v (plain.rolls-Char n) refl f
    by false f = cc

pub text_came : (bytes : List ℕ) (place : ℕ) (v : Value) → text_of bytes place ≡ Ok v → IsSmall v
text_came bytes place v e = by (is_utf8 bytes) e
  where
    by : (b : Bool) → (if b then Ok (plain.String bytes) else Err (trap BadUtf8 place)) ≡ Ok v → IsSmall v
    by true f = leaf_came (V.String bytes) (plain.String bytes) v (plain.rolls-String bytes) refl f
    by false f = cc
