-- What was lifted, of what lifting answers that goes on in steps.
use Rattle.std.proofs.Common.{◌≡◌, ◌≤◌, ◌-◌, ℕ, Bool, true, false, cond, Ok, Err, Result, refl, ap}
use Rattle.std.specs.Prelude.{nat_le}
use Rattle.std.proofs.lemmas.Bool.{leb-true}
use Rattle.value_lift.specs.declared.trap.LiftTrap.{LiftTrap}
use Rattle.value_lift.specs.declared.trap.LiftWhy.TheVariants.{TooLarge}
use Rattle.value_lift.specs.Answers.{Lifted, trap, after, made, uncounted, counted, counting}

abbrev pub okay : {X : Type 0} → X → Result X LiftTrap
okay x = Ok x

pub ok_same : {X : Type 0} (x y : X) → okay x ≡ okay y → x ≡ y
ok_same x y h = cc

-- a test that passes
pub if_ok : {X E : Type 0} (b : Bool) (x : Result X E) (e : E) (r : X) → cond b x (Err e) ≡ Ok r → (b ≡ true) × (x ≡ Ok r)
if_ok true x e r h = (refl, h)
if_ok false x e r h = cc

counting_test : {A : Type 0} (b : Bool) (k : ℕ) (e : LiftTrap) (f : ℕ → Lifted A) (r : A × ℕ) → counting (cond b (Ok k) (Err e)) f ≡ Ok r → (b ≡ true) × (f k ≡ Ok r)
counting_test true k e f r h = (refl, h)
counting_test false k e f r h = cc

-- something that was counted
pub counting_ok : {A : Type 0} (many place left : ℕ) (f : ℕ → Lifted A) (r : A × ℕ) → counting (counted many place left) f ≡ Ok r → (many ≤ left) × (f (left - many) ≡ Ok r)
counting_ok many place left f r h =
    let p = counting_test (nat_le many left) (left - many) (trap TooLarge place) f r h in
    (leb-true many left p.0, p.1)

-- something behind something
pub record Behind {A B : Type 0} (l : Lifted A) (f : A → ℕ → Lifted B) (r : B × ℕ) : Type 0 where
  pub first : A
  pub left : ℕ
  pub was : l ≡ Ok (first, left)
  pub then_is : f first left ≡ Ok r

pub after_ok : {A B : Type 0} (l : Lifted A) (f : A → ℕ → Lifted B) (r : B × ℕ) → after l f ≡ Ok r → Behind l f r
after_ok (Ok x) f r h = record { first = x.0; left = x.1; was = refl; then_is = h }
after_ok (Err e) f r h = cc

-- something made of something
pub record Made {A B : Type 0} (l : Lifted A) (f : A → B) (y : B) (rest : ℕ) : Type 0 where
  pub first : A
  pub was : l ≡ Ok (first, rest)
  pub is : f first ≡ y

made_parts : {A B : Type 0} (x : A × ℕ) (f : A → B) (y : B) (rest : ℕ) (e : (let p : B × ℕ = (f x.0, x.1) in p) ≡ (y, rest)) → Made (Ok x) f y rest
made_parts {A} {B} x f y rest e = record {
  first = x.0;
  was = ap (λ (n : ℕ). (let r : Lifted A = Ok (x.0, n) in r)) (ap (λ (p : B × ℕ). p.1) e);
  is = ap (λ (p : B × ℕ). p.0) e;
}

pub made_ok : {A B : Type 0} (f : A → B) (l : Lifted A) (y : B) (rest : ℕ) → made f l ≡ Ok (y, rest) → Made l f y rest
made_ok f (Ok x) y rest h = made_parts x f y rest (ok_same (f x.0, x.1) (y, rest) h)
made_ok f (Err e) y rest h = cc

pub uncounted_ok : {A : Type 0} (left : ℕ) (r : Result A LiftTrap) (v : A) (rest : ℕ) → uncounted left r ≡ Ok (v, rest) → (r ≡ Ok v) × (left ≡ rest)
uncounted_ok {A} left (Ok x) v rest h =
    let e : (x, left) ≡ (v, rest) = ok_same (x, left) (v, rest) h in
    (ap (λ (p : A × ℕ). (let r : Result A LiftTrap = Ok p.0 in r)) e, ap (λ (p : A × ℕ). p.1) e)
uncounted_ok left (Err e) v rest h = cc
