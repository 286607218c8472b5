-- Two lists that stand for each other, place by place.
use Rattle.std.proofs.Common.{◌≡◌, ◌<◌, ◌≤◌, ◌+◌, ℕ, zero, suc, List, [], ◌∷◌, ◌++◌, length, drop, get_or, refl, arith, add-one}
use Rattle.std.proofs.Math.Seq.{drop-nil}
use Rattle.std.specs.List.{AllZip}

-- one more at the end
pub all_more : {A B : Type 0} (R : B → A → Type 0) (xs : List B) (ys : List A) (x : B) (y : A) → AllZip R xs ys → R x y → AllZip R (xs ++ x ∷ []) (ys ++ y ∷ [])
all_more R [] [] x y h r = (r, tt)
all_more R [] (z ∷ ys) x y h r = absurd h
all_more R (z ∷ xs) [] x y h r = absurd h
all_more R (z ∷ xs) (w ∷ ys) x y h r = (h.0, all_more R xs ys x y h.1 r)

-- What stands for something as the one says stands for it as the other says.
pub all_stay : {A B : Type 0} (R Q : B → A → Type 0) → ((x : B) (y : A) → R x y → Q x y) → (xs : List B) (ys : List A) → AllZip R xs ys → AllZip Q xs ys
all_stay R Q f [] [] h = tt
all_stay R Q f [] (y ∷ ys) h = absurd h
all_stay R Q f (x ∷ xs) [] h = absurd h
all_stay R Q f (x ∷ xs) (y ∷ ys) h = (f x y h.0, all_stay R Q f xs ys h.1)

-- What stands for an item, before what stands for the items behind it.
pub one_left : {A B : Type 0} (R : B → A → Type 0) (xs : List B) (ys : List A) (n : ℕ) (d : B) → AllZip R xs ys → n < length xs → (y : A) × (drop n ys ≡ y ∷ drop (n + 1) ys) × R (get_or xs n d) y
one_left R [] ys n d h within = absurd (omega arith)
one_left R (x ∷ xs) [] n d h within = absurd h
one_left R (x ∷ xs) (y ∷ ys) zero d h within = (y, refl, h.0)
one_left R (x ∷ xs) (y ∷ ys) (suc n) d h within =
    let one = one_left R xs ys n d h.1 (omega arith) in
    let next : drop n ys ≡ one.0 ∷ drop (n + 1) ys = one.1 in
    (one.0, rw add-one (rw add-one at next), one.2)

-- Where no item is left, nothing is left that stands for one.
pub none_left : {A B : Type 0} (R : B → A → Type 0) (xs : List B) (ys : List A) (n : ℕ) → AllZip R xs ys → length xs ≤ n → drop n ys ≡ []
none_left R [] [] n h past = drop-nil n
none_left R [] (y ∷ ys) n h past = absurd h
none_left R (x ∷ xs) [] n h past = absurd h
none_left R (x ∷ xs) (y ∷ ys) zero h past = absurd (omega arith)
none_left R (x ∷ xs) (y ∷ ys) (suc n) h past = none_left R xs ys n h.1 (omega arith)
