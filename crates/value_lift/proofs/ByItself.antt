-- What is lifted over the plain ledger, without how much may be counted still.
use Rattle.std.proofs.Common.{◌≡◌, ◌∙◌, ℕ, List, Ok, Err, Result, refl, ap, sym, Bool, true, false, if◌then◌else◌}
use Rattle.faults.specs.declared.memory.MemoryOr.{MemoryOr}
use Rattle.faults.specs.declared.memory.MemoryOr.TheVariants.{Memory, Fault}
use Rattle.faults.specs.Faults.{MayMake}
use Rattle.syntax_trees.specs.declared.types.ValType.{ValType}
use Rattle.syntax_trees.specs.declared.value.Value.{Value}
use Rattle.laid_types.specs.Layout.{laid}
use Rattle.value_lift.specs.declared.trap.LiftTrap.{LiftTrap}
use Rattle.value_lift.specs.declared.trap.LiftWhy.TheVariants.{Misaligned, Bounds}
use Rattle.value_lift.specs.declared.counting.LiftOf.{LiftOf}
use Rattle.value_lift.specs.Bytes.{is_inside, is_aligned}
use Rattle.value_lift.specs.Leaves.{trap}
use Rattle.value_lift.specs.Answers.{Lifted, plainly}
use Rattle.value_lift.specs.Ledger.{MayTake, value_of}
use Rattle.value_lift.specs.Over.{load_by, load_list_by, lift_words, lift}
use Rattle.value_lift.specs.Lifting.{load, load_list, lift_flat, most}

bare : {A : Type 0} (came : Lifted A) (left : ℕ) (made : Result A LiftTrap) (r : Result A (MemoryOr LiftTrap)) → value_of came ≡ made → MayTake plainly came left r → MayMake (λ x. x) made r
bare came left made (Ok x) e h = sym e ∙ ap (λ c. value_of c) h
bare came left made (Err (Fault fault)) e h = sym e ∙ ap (λ c. value_of c) h
bare came left made (Err Memory) e h = tt

if_both : {A : Type 0} (a b : Bool) (x y z : Lifted A) → value_of (if a then (if b then x else y) else z) ≡ (if a then (if b then value_of x else value_of y) else value_of z)
if_both true true x y z = refl
if_both true false x y z = refl
if_both false b x y z = refl

if_one : {A : Type 0} (b : Bool) (x y : Lifted A) → value_of (if b then x else y) ≡ (if b then value_of x else value_of y)
if_one true x y = refl
if_one false x y = refl

pub loads_bare : (what : LiftOf) (type u : ValType) (memory : List ℕ) (place left : ℕ) (r : Result Value (MemoryOr LiftTrap)) → u ≡ type
    → MayTake plainly (load_by plainly u memory place (most what)) left r → MayMake (λ v. v) (load what type memory place) r
loads_bare what type u memory place left r e h =
    bare (load_by plainly u memory place (most what)) left (load what type memory place) r
    (ap (λ (t : ValType). value_of (load_by plainly t memory place (most what))) e
    ∙ if_both (is_aligned place (laid type).align) (is_inside place (laid type).size memory) (lift plainly type memory place (most what)) (Err (trap Bounds place)) (Err (trap Misaligned place))) h

pub lists_bare : (type u : ValType) (memory : List ℕ) (place count left : ℕ) (r : Result (List Value) (MemoryOr LiftTrap)) → u ≡ type
    → MayTake plainly (load_list_by plainly u memory place count 134217728) left r → MayMake (λ v. v) (load_list type memory place count) r
lists_bare type u memory place count left r e h =
    bare (load_list_by plainly u memory place count 134217728) left (load_list type memory place count) r
    (ap (λ (t : ValType). value_of (load_list_by plainly t memory place count 134217728)) e ∙ if_one _ _ _) h

pub flat_bare : (what : LiftOf) (type u : ValType) (memory words : List ℕ) (left : ℕ) (r : Result Value (MemoryOr LiftTrap)) → u ≡ type
    → MayTake plainly (lift_words plainly u memory words 0 (most what)) left r → MayMake (λ v. v) (lift_flat what type memory words) r
flat_bare what type u memory words left r e h =
    bare (lift_words plainly u memory words 0 (most what)) left (lift_flat what type memory words) r
    (ap (λ (t : ValType). value_of (lift_words plainly t memory words 0 (most what))) e) h
