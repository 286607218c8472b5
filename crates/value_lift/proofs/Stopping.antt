-- Where lifting stopped, of what lifting answers that goes on in steps.
use Rattle.std.proofs.Common.{◌≡◌, ◌≤◌, ◌<◌, ◌-◌, ℕ, Bool, true, false, cond, Ok, Err, Result, ◌⊎◌, inl, inr, refl, ap}
use Rattle.std.specs.Prelude.{nat_le}
use Rattle.std.proofs.lemmas.Bool.{leb-true, leb-false}
use Rattle.value_lift.specs.declared.trap.LiftTrap.{LiftTrap}
use Rattle.value_lift.specs.declared.trap.LiftWhy.TheVariants.{TooLarge}
use Rattle.value_lift.specs.Answers.{Lifted, trap, after, made, uncounted, counted, counting, value_of}
use Rattle.value_lift.proofs.Passing.{okay}

abbrev pub stopped : {X : Type 0} → LiftTrap → Result X LiftTrap
stopped e = Err e

pub err_same : {X : Type 0} (e f : LiftTrap) → stopped {X = X} e ≡ stopped f → e ≡ f
err_same e f h = cc

pub no_stop : {X : Type 0} (x : X) (e : LiftTrap) → okay x ≡ stopped e → ⊥
no_stop x e h = cc

-- a test
pub if_err : {X : Type 0} (b : Bool) (x : Result X LiftTrap) (e f : LiftTrap) → cond b x (Err e) ≡ Err f → ((b ≡ true) × (x ≡ Err f)) ⊎ ((b ≡ false) × (e ≡ f))
if_err true x e f h = inl (refl, h)
if_err {X} false x e f h = inr (refl, err_same {X = X} e f h)

counting_test : {A : Type 0} (b : Bool) (k : ℕ) (e : LiftTrap) (f : ℕ → Lifted A) (r : LiftTrap) → counting (cond b (Ok k) (Err e)) f ≡ Err r
    → ((b ≡ true) × (f k ≡ Err r)) ⊎ ((b ≡ false) × (e ≡ r))
counting_test true k e f r h = inl (refl, h)
counting_test {A} false k e f r h = inr (refl, err_same {X = A × ℕ} e r h)

-- something that was counted, or was too much
pub counting_err : {A : Type 0} (many place left : ℕ) (f : ℕ → Lifted A) (r : LiftTrap) → counting (counted many place left) f ≡ Err r
    → ((many ≤ left) × (f (left - many) ≡ Err r)) ⊎ ((left < many) × (trap TooLarge place ≡ r))
counting_err many place left f r h =
    elim (counting_test (nat_le many left) (left - many) (trap TooLarge place) f r h) [
      | inl p ↦ inl (leb-true many left p.0, p.1)
      | inr p ↦ inr (leb-false many left p.0, p.1)
    ]

-- something behind something
pub record Later {A B : Type 0} (l : Lifted A) (f : A → ℕ → Lifted B) (r : LiftTrap) : Type 0 where
  pub first : A
  pub left : ℕ
  pub was : l ≡ Ok (first, left)
  pub then_is : f first left ≡ Err r

pub after_err : {A B : Type 0} (l : Lifted A) (f : A → ℕ → Lifted B) (r : LiftTrap) → after l f ≡ Err r → (l ≡ Err r) ⊎ Later l f r
after_err (Ok x) f r h = inr (record { first = x.0; left = x.1; was = refl; then_is = h })
after_err {A} {B} (Err e) f r h =
    inl (ap (λ (t : LiftTrap). stopped {X = A × ℕ} t) (err_same {X = B × ℕ} e r h))

-- something made of something
pub made_err : {A B : Type 0} (f : A → B) (l : Lifted A) (r : LiftTrap) → made f l ≡ Err r → l ≡ Err r
made_err {A} {B} f (Ok x) r h = absurd (no_stop (f x.0, x.1) r h)
made_err {A} {B} f (Err e) r h = ap (λ (t : LiftTrap). stopped {X = A × ℕ} t) (err_same {X = B × ℕ} e r h)

pub uncounted_err : {A : Type 0} (left : ℕ) (x : Result A LiftTrap) (r : LiftTrap) → uncounted left x ≡ Err r → x ≡ Err r
uncounted_err left (Ok x) r h = absurd (no_stop (x, left) r h)
uncounted_err {A} left (Err e) r h = ap (λ (t : LiftTrap). stopped {X = A} t) (err_same {X = A × ℕ} e r h)

pub value_err : {A : Type 0} (l : Lifted A) (r : LiftTrap) → value_of l ≡ Err r → l ≡ Err r
value_err (Ok x) r h = absurd (no_stop x.0 r h)
value_err {A} (Err e) r h = ap (λ (t : LiftTrap). stopped {X = A × ℕ} t) (err_same {X = A} e r h)
