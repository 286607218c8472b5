-- Lifting that lists the indices which are used is plain lifting, but for the list.
use Rattle.std.proofs.Common.{◌≡◌, ◌∙◌, ◌-◌, ◌==◌, ℕ, Bool, true, false, if◌then◌else◌, List, [], Ok, Err, Result, refl, ap, sym, subst}
use Rattle.std.specs.Prelude.{nat_le}
use Rattle.syntax_trees.specs.declared.value.Value.{Value}
use Rattle.laid_types.specs.Layout.{laid}
use Rattle.value_lift.specs.declared.trap.LiftTrap.{LiftTrap}
use Rattle.value_lift.specs.declared.trap.LiftWhy.TheVariants.{TooLarge, Misaligned, Bounds}
use Rattle.value_lift.specs.Bytes.{is_inside, is_aligned}
use Rattle.value_lift.specs.Leaves.{trap}
use Rattle.value_lift.specs.Answers.{plainly, counted}
use Rattle.value_lift.specs.Ledger.{Came, Use, What, counting, value_of, reached}
use Rattle.value_lift.specs.Over.{load_by, load_list_by, lift_flat_by, lift, elements_of, part}
use Rattle.value_lift.specs.Lifting.{most}
use Rattle.value_lift.specs.Settled.{Listed, listed_spent, listing, none_listed, unlisted, ListedLoadsArePlain, ListedListsArePlain, ListedWordsArePlain}
use Rattle.value_lift.proofs.Both.{stop_of, Both, Spent, on_with}
use Rattle.value_lift.proofs.Beside.{AreBeside, Carries, AllCarry}
use Rattle.value_lift.proofs.BesideTypes.{loads_alike, lists_alike, words_alike}
use Rattle.value_lift.proofs.Carried.{carried_same, all_carried_same}

-- as much may be counted still
abbrev Same : Listed → Result ℕ LiftTrap → Type 0
Same s (Ok left) = s.left ≡ left
Same s (Err fault) = ⊥

-- and lifting stops for the same fault
abbrev SameFault : LiftTrap × List Use → LiftTrap → Type 0
SameFault f fault = f.0 ≡ fault

spent_same : (c : Bool) (many place : ℕ) (s : Listed)
    → Spent Same SameFault (if c then Ok (record { left = s.left - many; uses = s.uses }) else Err (trap TooLarge place, s.uses)) (if c then Ok (s.left - many) else Err (trap TooLarge place))
spent_same true many place s = refl
spent_same false many place s = refl

spends : (many place : ℕ) (s : Listed) (q : Result ℕ LiftTrap) → Same s q → Spent Same SameFault (listed_spent many place s) (on_with q (λ left. counted many place left))
spends many place s (Ok left) b = subst (λ (left : ℕ). Spent Same SameFault (listed_spent many place s) (counted many place left)) b (spent_same (nat_le many s.left) many place s)
spends many place s (Err fault) b = absurd b

stops : (fault : LiftTrap) (s : Listed) (q : Result ℕ LiftTrap) → Same s q → SameFault (fault, s.uses) (stop_of plainly fault q)
stops fault s (Ok left) b = refl
stops fault s (Err g) b = absurd b

reached_same : (c : Bool) (u : Use) (place : ℕ) (s : Listed)
    → Both Same SameFault (λ (a b : ℕ). a ≡ b)
    (counting (if c then Ok (record { left = s.left - 1; uses = s.uses }) else Err (trap TooLarge place, s.uses)) (λ k. listing.take u k))
    (counting (if c then Ok (s.left - 1) else Err (trap TooLarge place)) (λ left. plainly.take u left))
reached_same true u place s = (refl, refl)
reached_same false u place s = refl

reaches : (what : What) (index place : ℕ) (s : Listed) (q : Result ℕ LiftTrap) → Same s q
    → Both Same SameFault (λ (a b : ℕ). a ≡ b) (reached listing what index place s) (counting q (λ left. reached plainly what index place left))
reaches what index place s (Ok left) b =
    subst (λ (left : ℕ). Both Same SameFault (λ (a b : ℕ). a ≡ b) (reached listing what index place s) (reached plainly what index place left)) b
    (reached_same (nat_le 1 s.left) (record { what = what; index = index; place = place }) place s)
reaches what index place s (Err fault) b = absurd b

beside : AreBeside listing plainly (λ n. n) Same SameFault
beside = record {
  spends = λ many place s q b. spends many place s q b;
  stops = λ fault s q b. stops fault s q b;
  reaches = λ what index place s q b. reaches what index place s q b;
}

-- what both come to, without the list
came_same : {A : Type 0} (V : A → A → Type 0) (r : Came Listed (LiftTrap × List Use) A) (u : Came ℕ LiftTrap A) → ((x y : A) → V x y → x ≡ y) → Both Same SameFault V r u
    → unlisted r ≡ value_of u
came_same {A} V (Ok x) (Ok y) same b = ap (λ (v : A). (let o : Result A LiftTrap = Ok v in o)) (same x.0 y.0 b.0)
came_same V (Ok x) (Err g) same b = absurd b
came_same V (Err f) (Ok y) same b = absurd b
came_same {A} V (Err f) (Err g) same b = ap (λ (e : LiftTrap). (let o : Result A LiftTrap = Err e in o)) b

one_value : (v w : Value) → Carries listing plainly (λ n. n) Same SameFault v w → v ≡ w
one_value v w e = sym (carried_same v) ∙ e

one_list : (vs ws : List Value) → AllCarry listing plainly (λ n. n) Same SameFault vs ws → vs ≡ ws
one_list vs ws e = sym (all_carried_same vs) ∙ e

if_both : {A : Type 0} (a b : Bool) (x y z : Came ℕ LiftTrap A) → value_of (if a then (if b then x else y) else z) ≡ (if a then (if b then value_of x else value_of y) else value_of z)
if_both true true x y z = refl
if_both true false x y z = refl
if_both false b x y z = refl

if_one : {A : Type 0} (b : Bool) (x y : Came ℕ LiftTrap A) → value_of (if b then x else y) ≡ (if b then value_of x else value_of y)
if_one true x y = refl
if_one false x y = refl

pub loads_plain : ListedLoadsArePlain
loads_plain what type memory place =
    came_same (Carries listing plainly (λ n. n) Same SameFault) (load_by listing type memory place (none_listed (most what))) (load_by plainly type memory place (most what)) one_value
    (loads_alike listing plainly (λ n. n) Same SameFault beside type memory place (none_listed (most what)) (most what) refl)
    ∙ if_both (is_aligned place (laid type).align) (is_inside place (laid type).size memory) (lift plainly type memory place (most what)) (Err (trap Bounds place)) (Err (trap Misaligned place))

pub lists_plain : ListedListsArePlain
lists_plain type memory place count =
    came_same (AllCarry listing plainly (λ n. n) Same SameFault) (load_list_by listing type memory place count (none_listed 134217728)) (load_list_by plainly type memory place count 134217728) one_list
    (lists_alike listing plainly (λ n. n) Same SameFault beside type memory place count (none_listed 134217728) 134217728 refl)
    ∙ if_one (count == 0) (Ok ([], 134217728)) (elements_of plainly (part plainly type) place count memory place 134217728)

pub words_plain : ListedWordsArePlain
words_plain what type memory words =
    came_same (Carries listing plainly (λ n. n) Same SameFault) (lift_flat_by listing type memory words (none_listed (most what))) (lift_flat_by plainly type memory words (most what)) one_value
    (words_alike listing plainly (λ n. n) Same SameFault beside type memory words (none_listed (most what)) (most what) refl)
