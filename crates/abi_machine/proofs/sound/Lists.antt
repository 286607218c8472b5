-- Lists in which an item is changed, or to which one is added.
use Rattle.std.proofs.Common.{◌≡◌, ◌<◌, ◌⊎◌, inl, inr, ℕ, zero, suc, List, [], ◌∷◌, ◌++◌, length, refl, sym, ap, arith, Some}
use Rattle.std.specs.Prelude.{IsSome}
use Rattle.std.specs.List.{slice_get, AllByRecursion}
use Rattle.abi_machine.specs.Edits.{changed_at}

-- What holds of all items, where it holds of the changed one.
pub all_changed : {A : Type 0} (P : A → Type 0) (n : ℕ) (f : A → A) (xs : List A) → ((x : A) → slice_get xs n ≡ Some x → P x → P (f x)) → AllByRecursion P xs
    → AllByRecursion P (changed_at n f xs)
all_changed P n f [] keeps h = tt
all_changed P zero f (x ∷ xs) keeps h = (keeps x refl h.0, h.1)
all_changed P (suc n) f (x ∷ xs) keeps h = (h.0, all_changed P n f xs keeps h.1)

pub all_more : {A : Type 0} (P : A → Type 0) (xs : List A) (x : A) → AllByRecursion P xs → P x → AllByRecursion P (xs ++ x ∷ [])
all_more P [] x h p = (p, tt)
all_more P (y ∷ xs) x h p = (h.0, all_more P xs x h.1 p)

pub all_as : {A : Type 0} (P Q : A → Type 0) → ((x : A) → P x → Q x) → (xs : List A) → AllByRecursion P xs → AllByRecursion Q xs
all_as P Q f [] h = tt
all_as P Q f (x ∷ xs) h = (f x h.0, all_as P Q f xs h.1)

-- what stands in a list in which an item is changed
pub changed_either : {A : Type 0} (t : ℕ) (f : A → A) (xs : List A) (n : ℕ) (y : A) → slice_get (changed_at t f xs) n ≡ Some y
    → ((x : A) × (slice_get xs n ≡ Some x) × (y ≡ f x)) ⊎ (slice_get xs n ≡ Some y)
changed_either t f [] n y h = inr h
changed_either zero f (x ∷ xs) zero y h = inl (x, refl, (let same : f x ≡ y = cc in sym same))
changed_either zero f (x ∷ xs) (suc n) y h = inr h
changed_either (suc t) f (x ∷ xs) zero y h = inr h
changed_either (suc t) f (x ∷ xs) (suc n) y h = changed_either t f xs n y h

-- and in one with one more
pub more_either : {A : Type 0} (xs : List A) (x : A) (n : ℕ) (y : A) → slice_get (xs ++ x ∷ []) n ≡ Some y → (slice_get xs n ≡ Some y) ⊎ ((n ≡ length xs) × (y ≡ x))
more_either [] x zero y h = inr (refl, (let same : x ≡ y = cc in sym same))
more_either [] x (suc n) y h = cc
more_either (z ∷ xs) x zero y h = inl h
more_either (z ∷ xs) x (suc n) y h = elim (more_either xs x n y h) [
  | inl old ↦ inl old
  | inr new ↦ inr (ap suc new.0, new.1)
]

pub get_front : {A : Type 0} (xs : List A) (x : A) (n : ℕ) (y : A) → slice_get xs n ≡ Some y → slice_get (xs ++ x ∷ []) n ≡ Some y
get_front [] x n y h = cc
get_front (z ∷ xs) x zero y h = h
get_front (z ∷ xs) x (suc n) y h = get_front xs x n y h

pub there_front : {A : Type 0} (xs : List A) (x : A) (n : ℕ) → IsSome (slice_get xs n) → IsSome (slice_get (xs ++ x ∷ []) n)
there_front [] x n h = cc
there_front (z ∷ xs) x zero h = refl
there_front (z ∷ xs) x (suc n) h = there_front xs x n h

pub there_last : {A : Type 0} (xs : List A) (x : A) → IsSome (slice_get (xs ++ x ∷ []) (length xs))
there_last [] x = refl
there_last (z ∷ xs) x = there_last xs x

pub within : {A : Type 0} (xs : List A) (n : ℕ) → IsSome (slice_get xs n) → n < length xs
within [] n h = cc
within (y ∷ xs) zero h = omega arith
within (y ∷ xs) (suc n) h = let less : n < length xs = within xs n h in omega (arith, less)

pub length_changed : {A : Type 0} (n : ℕ) (f : A → A) (xs : List A) → length (changed_at n f xs) ≡ length xs
length_changed n f [] = refl
length_changed zero f (x ∷ xs) = refl
length_changed (suc n) f (x ∷ xs) = ap suc (length_changed n f xs)

pub length_more : {A : Type 0} (xs : List A) (x : A) → length (xs ++ x ∷ []) ≡ suc (length xs)
length_more [] x = refl
length_more (y ∷ xs) x = ap suc (length_more xs x)
