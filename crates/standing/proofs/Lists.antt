-- Lists that stand for one another, item by item.
use Rattle.std.proofs.Common.{◌≡◌, ℕ, zero, suc, List, [], ◌∷◌, ◌++◌, map, length, slice_set, refl, sym, ap, subst, Option, Some, None}
use Rattle.std.specs.Prelude.{IsSome}
use Rattle.std.specs.List.{slice_get, AllZip}
use Rattle.abi_machine.specs.Edits.{changed_at}
use Rattle.abi_machine.proofs.sound.Found.{some_same}

-- What stands at a place: of both lists something, or of both nothing.
abbrev pub BothAt : {A B : Type 0} → (A → B → Type 0) → Option A → Option B → Type 0
BothAt R None None = Unit {0}
BothAt R (Some x) (Some y) = R x y
BothAt R None (Some y) = ⊥
BothAt R (Some x) None = ⊥

pub at_both : {A B : Type 0} (R : A → B → Type 0) (xs : List A) (ys : List B) (n : ℕ) → AllZip R xs ys → BothAt R (slice_get xs n) (slice_get ys n)
at_both R [] [] n h = tt
at_both R [] (y ∷ ys) n h = absurd h
at_both R (x ∷ xs) [] n h = absurd h
at_both R (x ∷ xs) (y ∷ ys) zero h = h.0
at_both R (x ∷ xs) (y ∷ ys) (suc n) h = at_both R xs ys n h.1

-- where something stands
pub record IsFound {A B : Type 0} (R : A → B → Type 0) (o : Option A) (p : Option B) : Type 0 where
  pub left : A
  pub right : B
  pub is_left : o ≡ Some left
  pub is_right : p ≡ Some right
  pub alike : R left right

by_right : {A B : Type 0} (R : A → B → Type 0) (o : Option A) (p : Option B) → BothAt R o p → IsSome p → IsFound R o p
by_right R None None b h = absurd (cc)
by_right R None (Some y) b h = absurd b
by_right R (Some x) None b h = absurd b
by_right R (Some x) (Some y) b h = record { left = x; right = y; is_left = refl; is_right = refl; alike = b }

pub found_both : {A B : Type 0} (R : A → B → Type 0) (xs : List A) (ys : List B) (n : ℕ) → AllZip R xs ys → IsSome (slice_get ys n)
    → IsFound R (slice_get xs n) (slice_get ys n)
found_both R xs ys n h there = by_right R (slice_get xs n) (slice_get ys n) (at_both R xs ys n h) there

by_left : {A B : Type 0} (R : A → B → Type 0) (o : Option A) (p : Option B) (x : A) → BothAt R o p → o ≡ Some x → IsFound R o p
by_left R None None x b h = absurd (cc)
by_left R None (Some y) x b h = absurd b
by_left R (Some z) None x b h = absurd b
by_left R (Some z) (Some y) x b h = record { left = z; right = y; is_left = refl; is_right = refl; alike = b }

pub found_left : {A B : Type 0} (R : A → B → Type 0) (xs : List A) (ys : List B) (n : ℕ) (x : A) → AllZip R xs ys → slice_get xs n ≡ Some x
    → IsFound R (slice_get xs n) (slice_get ys n)
found_left R xs ys n x h there = by_left R (slice_get xs n) (slice_get ys n) x (at_both R xs ys n h) there

-- An item of both is changed.
pub both_changed : {A B : Type 0} (R : A → B → Type 0) (xs : List A) (ys : List B) (n : ℕ) (x z : A) (f : B → B)
    → slice_get xs n ≡ Some x → ((y : B) → slice_get ys n ≡ Some y → R x y → R z (f y)) → AllZip R xs ys → AllZip R (slice_set xs n z) (changed_at n f ys)
both_changed R [] ys n x z f e k h = absurd (cc)
both_changed R (a ∷ xs) [] n x z f e k h = absurd h
both_changed R (a ∷ xs) (b ∷ ys) zero x z f e k h = (k b refl (subst (λ u. R u b) (some_same e) h.0), h.1)
both_changed R (a ∷ xs) (b ∷ ys) (suc n) x z f e k h = (h.0, both_changed R xs ys n x z f e k h.1)

-- An item of the first alone is changed.
pub left_changed : {A B : Type 0} (R : A → B → Type 0) (xs : List A) (ys : List B) (n : ℕ) (x z : A)
    → slice_get xs n ≡ Some x → ((y : B) → R x y → R z y) → AllZip R xs ys → AllZip R (slice_set xs n z) ys
left_changed R [] ys n x z e k h = absurd (cc)
left_changed R (a ∷ xs) [] n x z e k h = absurd h
left_changed R (a ∷ xs) (b ∷ ys) zero x z e k h = (k b (subst (λ u. R u b) (some_same e) h.0), h.1)
left_changed R (a ∷ xs) (b ∷ ys) (suc n) x z e k h = (h.0, left_changed R xs ys n x z e k h.1)

-- What is written back as it was.
pub set_same : {A : Type 0} (xs : List A) (n : ℕ) (x : A) → slice_get xs n ≡ Some x → slice_set xs n x ≡ xs
set_same [] n x e = refl
set_same (a ∷ xs) zero x e = ap (λ y. y ∷ xs) (sym (some_same e))
set_same (a ∷ xs) (suc n) x e = ap (λ ys. a ∷ ys) (set_same xs n x e)

-- One more item.
pub both_more : {A B : Type 0} (R : A → B → Type 0) (xs : List A) (ys : List B) (x : A) (y : B) → AllZip R xs ys → R x y → AllZip R (xs ++ x ∷ []) (ys ++ y ∷ [])
both_more R [] [] x y h r = (r, tt)
both_more R [] (b ∷ ys) x y h r = absurd h
both_more R (a ∷ xs) [] x y h r = absurd h
both_more R (a ∷ xs) (b ∷ ys) x y h r = (h.0, both_more R xs ys x y h.1 r)

pub both_long : {A B : Type 0} (R : A → B → Type 0) (xs : List A) (ys : List B) → AllZip R xs ys → length xs ≡ length ys
both_long R [] [] h = refl
both_long R [] (b ∷ ys) h = absurd h
both_long R (a ∷ xs) [] h = absurd h
both_long R (a ∷ xs) (b ∷ ys) h = ap suc (both_long R xs ys h.1)

-- What is seen of items, where one is changed.
pub map_kept : {A B : Type 0} (p : A → B) (n : ℕ) (f : A → A) (xs : List A) → ((x : A) → p (f x) ≡ p x) → map p (changed_at n f xs) ≡ map p xs
map_kept p n f [] k = refl
map_kept p zero f (x ∷ xs) k = ap (λ y. y ∷ map p xs) (k x)
map_kept p (suc n) f (x ∷ xs) k = ap (λ ys. p x ∷ ys) (map_kept p n f xs k)

pub map_changed : {A B : Type 0} (p : A → B) (n : ℕ) (f : A → A) (u : B → B) (xs : List A) → ((x : A) → p (f x) ≡ u (p x)) → map p (changed_at n f xs) ≡ changed_at n u (map p xs)
map_changed p n f u [] k = refl
map_changed p zero f u (x ∷ xs) k = ap (λ y. y ∷ map p xs) (k x)
map_changed p (suc n) f u (x ∷ xs) k = ap (λ ys. p x ∷ ys) (map_changed p n f u xs k)

pub map_more : {A B : Type 0} (p : A → B) (xs : List A) (x : A) → map p (xs ++ x ∷ []) ≡ map p xs ++ p x ∷ []
map_more p [] x = refl
map_more p (y ∷ xs) x = ap (λ ys. p y ∷ ys) (map_more p xs x)
