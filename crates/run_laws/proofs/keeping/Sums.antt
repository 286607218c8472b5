-- Sums over a list in which an item is another one, or one more stands, and whether one passes a test.
use Rattle.std.proofs.Common.{◌≡◌, ◌⊎◌, inl, inr, ℕ, zero, suc, ◌+◌, Bool, true, false, ◌||◌, if◌then◌else◌, List, [], ◌∷◌, ◌++◌, length, slice_set, slice_index_or, refl, sym, ap, ◌∙◌, arith, Option, Some, None}
use Rattle.std.specs.Prelude.{IsSome}
use Rattle.std.specs.List.{slice_get, list_any, count_by, sum_by}
use Rattle.std.proofs.lemmas.List.Sums.{sum_by-cons, sum_by_push}
use Rattle.abi_machine.proofs.sound.Found.{some_same}

pub sum_set : {A : Type 0} (f : A → ℕ) (xs : List A) (t : ℕ) (x y : A) → slice_get xs t ≡ Some x → sum_by f (slice_set xs t y) + f x ≡ sum_by f xs + f y
sum_set f [] t x y e = absurd (cc)
sum_set f (z ∷ xs) zero x y e =
    let a : sum_by f (y ∷ xs) ≡ f y + sum_by f xs = sum_by-cons f y xs in
    let b : sum_by f (z ∷ xs) ≡ f z + sum_by f xs = sum_by-cons f z xs in
    let c : f z ≡ f x = ap f (some_same e) in
    omega (arith, a, b, c)
sum_set f (z ∷ xs) (suc t) x y e =
    let a : sum_by f (z ∷ slice_set xs t y) ≡ f z + sum_by f (slice_set xs t y) = sum_by-cons f z (slice_set xs t y) in
    let b : sum_by f (z ∷ xs) ≡ f z + sum_by f xs = sum_by-cons f z xs in
    let c : sum_by f (slice_set xs t y) + f x ≡ sum_by f xs + f y = sum_set f xs t x y e in
    omega (arith, a, b, c)

pub sum_same : {A : Type 0} (f : A → ℕ) (xs : List A) (t : ℕ) (x y : A) → slice_get xs t ≡ Some x → f y ≡ f x → sum_by f (slice_set xs t y) ≡ sum_by f xs
sum_same f xs t x y e same =
    let a : sum_by f (slice_set xs t y) + f x ≡ sum_by f xs + f y = sum_set f xs t x y e in
    omega (arith, a, same)

-- The same of what is counted at each item.
pub sums_equal : {A : Type 0} (f g : A → ℕ) (xs : List A) → ((n : ℕ) (x : A) → slice_get xs n ≡ Some x → f x ≡ g x) → sum_by f xs ≡ sum_by g xs
sums_equal f g [] same = refl
sums_equal f g (x ∷ xs) same =
    sum_by-cons f x xs ∙ ap (λ (n : ℕ). n + sum_by f xs) (same 0 x refl) ∙ ap (λ (n : ℕ). g x + n) (sums_equal f g xs (λ n y e. same (suc n) y e))
    ∙ sym (sum_by-cons g x xs)

pub sum_none : {A : Type 0} (f : A → ℕ) (xs : List A) → ((n : ℕ) (x : A) → slice_get xs n ≡ Some x → f x ≡ 0) → sum_by f xs ≡ 0
sum_none f [] none = refl
sum_none f (x ∷ xs) none =
    let a : sum_by f (x ∷ xs) ≡ f x + sum_by f xs = sum_by-cons f x xs in
    let b : f x ≡ 0 = none 0 x refl in
    let c : sum_by f xs ≡ 0 = sum_none f xs (λ n y e. none (suc n) y e) in
    omega (arith, a, b, c)

-- One that is counted is there.
pub sum_part : {A : Type 0} (f : A → ℕ) (xs : List A) (t : ℕ) (x : A) → slice_get xs t ≡ Some x → sum_by f xs ≡ 0 → f x ≡ 0
sum_part f [] t x e none = absurd (cc)
sum_part f (z ∷ xs) zero x e none =
    let a : sum_by f (z ∷ xs) ≡ f z + sum_by f xs = sum_by-cons f z xs in
    let c : f z ≡ f x = ap f (some_same e) in
    omega (arith, a, c, none)
sum_part f (z ∷ xs) (suc t) x e none =
    let a : sum_by f (z ∷ xs) ≡ f z + sum_by f xs = sum_by-cons f z xs in
    let b : sum_by f xs ≡ 0 = omega (arith, a, none) in
    sum_part f xs t x e b

pub none_if : (b : Bool) → b ≡ false → ◌≡◌ {A = ℕ} (if b then 1 else 0) 0
none_if true e = absurd (cc)
none_if false e = refl

pub count_none : {A : Type 0} (p : A → Bool) (xs : List A) → ((n : ℕ) (x : A) → slice_get xs n ≡ Some x → p x ≡ false) → count_by p xs ≡ 0
count_none p xs none = sum_none (λ x. if p x then 1 else 0) xs (λ n x e. none_if (p x) (none n x e))

-- Whether one passes.
pub any_same : {A : Type 0} (p : A → Bool) (xs : List A) (t : ℕ) (x y : A) → slice_get xs t ≡ Some x → p y ≡ p x → list_any p (slice_set xs t y) ≡ list_any p xs
any_same p [] t x y e same = refl
any_same p (z ∷ xs) zero x y e same = ap (λ (b : Bool). b || list_any p xs) (same ∙ ap p (sym (some_same e)))
any_same p (z ∷ xs) (suc t) x y e same = ap (λ (b : Bool). p z || b) (any_same p xs t x y e same)

pub any_more : {A : Type 0} (p : A → Bool) (xs : List A) (x : A) → p x ≡ false → list_any p (xs ++ x ∷ []) ≡ list_any p xs
any_more p [] x none = ap (λ (b : Bool). b || false) none
any_more p (z ∷ xs) x none = ap (λ (b : Bool). p z || b) (any_more p xs x none)

or_true : (b : Bool) → (b || true) ≡ true
or_true true = refl
or_true false = refl

pub any_there : {A : Type 0} (p : A → Bool) (xs : List A) (t : ℕ) (x : A) → slice_get xs t ≡ Some x → p x ≡ true → list_any p xs ≡ true
any_there p [] t x e passes = absurd (cc)
any_there p (z ∷ xs) zero x e passes = ap (λ (b : Bool). b || list_any p xs) (ap p (some_same e) ∙ passes)
any_there p (z ∷ xs) (suc t) x e passes = ap (λ (b : Bool). p z || b) (any_there p xs t x e passes) ∙ or_true (p z)

pub any_none : {A : Type 0} (p : A → Bool) (xs : List A) → ((n : ℕ) (x : A) → slice_get xs n ≡ Some x → p x ≡ false) → list_any p xs ≡ false
any_none p [] none = refl
any_none p (z ∷ xs) none = ap (λ (b : Bool). b || list_any p xs) (none 0 z refl) ∙ any_none p xs (λ n x e. none (suc n) x e)

-- What is found behind a write, and where one more stands.
pub set_either : {A : Type 0} (xs : List A) (t : ℕ) (y : A) (n : ℕ) (z : A) → slice_get (slice_set xs t y) n ≡ Some z → ((n ≡ t) × (z ≡ y)) ⊎ (slice_get xs n ≡ Some z)
set_either [] t y n z e = inr e
set_either (x ∷ xs) zero y zero z e = inl (refl, sym (some_same e))
set_either (x ∷ xs) zero y (suc n) z e = inr e
set_either (x ∷ xs) (suc t) y zero z e = inr e
set_either (x ∷ xs) (suc t) y (suc n) z e = elim (set_either xs t y n z e) [
  | inl new ↦ inl (ap suc new.0, new.1)
  | inr old ↦ inr old
]

pub set_cases : {A : Type 0} (xs : List A) (t : ℕ) (y : A) (n : ℕ) (z : A) → slice_get (slice_set xs t y) n ≡ Some z → ((n ≡ t) × (z ≡ y)) ⊎ ((n ≡ t → ⊥) × (slice_get xs n ≡ Some z))
set_cases [] t y n z e = absurd (cc)
set_cases (x ∷ xs) zero y zero z e = inl (refl, sym (some_same e))
set_cases (x ∷ xs) zero y (suc n) z e = inr ((λ same. cc), e)
set_cases (x ∷ xs) (suc t) y zero z e = inr ((λ same. cc), e)
set_cases (x ∷ xs) (suc t) y (suc n) z e = elim (set_cases xs t y n z e) [
  | inl new ↦ inl (ap suc new.0, new.1)
  | inr old ↦ inr ((λ same. old.0 (suc_same same)), old.1)
]
  where
    suc_same : {a b : ℕ} → suc a ≡ suc b → a ≡ b
    suc_same e = omega (arith, e)

pub still_there : {A : Type 0} (xs : List A) (t n : ℕ) (y : A) → IsSome (slice_get xs n) → IsSome (slice_get (slice_set xs t y) n)
still_there [] t n y there = there
still_there (x ∷ xs) zero zero y there = refl
still_there (x ∷ xs) zero (suc n) y there = there
still_there (x ∷ xs) (suc t) zero y there = there
still_there (x ∷ xs) (suc t) (suc n) y there = still_there xs t n y there

pub length_set : {A : Type 0} (xs : List A) (t : ℕ) (y : A) → length (slice_set xs t y) ≡ length xs
length_set [] t y = refl
length_set (x ∷ xs) zero y = refl
length_set (x ∷ xs) (suc t) y = ap suc (length_set xs t y)

pub none_last : {A : Type 0} (xs : List A) → slice_get xs (length xs) ≡ None
none_last [] = refl
none_last (x ∷ xs) = none_last xs

pub found_index : {A : Type 0} (xs : List (Option A)) (n : ℕ) (o : Option A) → slice_get xs n ≡ Some o → slice_index_or xs n None ≡ o
found_index [] n o e = absurd (cc)
found_index (x ∷ xs) zero o e = some_same e
found_index (x ∷ xs) (suc n) o e = found_index xs n o e

pub index_found : {A : Type 0} (xs : List (Option A)) (n : ℕ) (x : A) → slice_index_or xs n None ≡ Some x → slice_get xs n ≡ Some (Some x)
index_found [] n x e = absurd (cc)
index_found (y ∷ xs) zero x e = ap (λ (o : Option _). Some o) e
index_found (y ∷ xs) (suc n) x e = index_found xs n x e

-- Slots that pass a test, where one slot is another one that passes as it did.
pub count_written : {A : Type 0} (p : Option A → Bool) (xs : List (Option A)) (place : ℕ) (o : Option A) → p o ≡ p (slice_index_or xs place None)
    → count_by p (slice_set xs place o) ≡ count_by p xs
count_written p [] place o same = refl
count_written p (x ∷ xs) zero o same =
    sum_by-cons (λ z. if p z then 1 else 0) o xs ∙ ap (λ (b : Bool). (if b then 1 else 0) + count_by p xs) same ∙ sym (sum_by-cons (λ z. if p z then 1 else 0) x xs)
count_written p (x ∷ xs) (suc place) o same =
    sum_by-cons (λ z. if p z then 1 else 0) x (slice_set xs place o) ∙ ap (λ (n : ℕ). (if p x then 1 else 0) + n) (count_written p xs place o same)
    ∙ sym (sum_by-cons (λ z. if p z then 1 else 0) x xs)

pub count_more : {A : Type 0} (p : A → Bool) (xs : List A) (x : A) → p x ≡ false → count_by p (xs ++ x ∷ []) ≡ count_by p xs
count_more p xs x none =
    let a : count_by p (xs ++ x ∷ []) ≡ count_by p xs + (if p x then 1 else 0) = sum_by_push (λ z. if p z then 1 else 0) xs x in
    let b : ◌≡◌ {A = ℕ} (if p x then 1 else 0) 0 = none_if (p x) none in
    omega (arith, a, b)
