-- Lists from a place on, and up to it, and lists that stand beside others.
use Rattle.std.proofs.Common.{◌≡◌, ℕ, zero, suc, ◌+◌, List, [], ◌∷◌, ◌++◌, take, drop, refl, ap, arith, Some, None}
use Rattle.std.specs.List.{slice_get, AllZip}

one_more : (k : ℕ) → k + 1 ≡ suc k
one_more k = omega arith

module _ {A : Type 0} where
  -- from a place on
  pub drop_at : (xs : List A) (k : ℕ) (x : A) → slice_get xs k ≡ Some x → drop k xs ≡ x ∷ drop (k + 1) xs
  drop_at xs k x h = rw (one_more k) (by xs k h)
    where
      by : (xs : List A) (k : ℕ) → slice_get xs k ≡ Some x → drop k xs ≡ x ∷ drop (suc k) xs
      by [] k h = cc
      by (y ∷ xs) zero h = let same : y ≡ x = cc in ap (λ z. z ∷ xs) same
      by (y ∷ xs) (suc k) h = by xs k h

  pub drop_past : (xs : List A) (k : ℕ) → slice_get xs k ≡ None → drop k xs ≡ []
  drop_past [] zero h = refl
  drop_past [] (suc k) h = refl
  drop_past (y ∷ xs) zero h = cc
  drop_past (y ∷ xs) (suc k) h = drop_past xs k h

  -- up to a place
  pub take_at : (xs : List A) (k : ℕ) (x : A) → slice_get xs k ≡ Some x → take (k + 1) xs ≡ take k xs ++ x ∷ []
  take_at xs k x h = rw (one_more k) (by xs k h)
    where
      by : (xs : List A) (k : ℕ) → slice_get xs k ≡ Some x → take (suc k) xs ≡ take k xs ++ x ∷ []
      by [] k h = cc
      by (y ∷ xs) zero h = let same : y ≡ x = cc in ap (λ z. z ∷ []) same
      by (y ∷ xs) (suc k) h = ap (λ zs. y ∷ zs) (by xs k h)

  pub take_past : (xs : List A) (k : ℕ) → slice_get xs k ≡ None → take k xs ≡ xs
  take_past [] zero h = refl
  take_past [] (suc k) h = refl
  take_past (y ∷ xs) zero h = cc
  take_past (y ∷ xs) (suc k) h = ap (λ zs. y ∷ zs) (take_past xs k h)

-- one list behind another, beside others
pub zips_append : {A B : Type 0} (R : A → B → Type 0) (xs zs : List A) (ys ws : List B) → AllZip R xs ys → AllZip R zs ws → AllZip R (xs ++ zs) (ys ++ ws)
zips_append R [] zs [] ws h k = k
zips_append R [] zs (y ∷ ys) ws h k = absurd h
zips_append R (x ∷ xs) zs [] ws h k = absurd h
zips_append R (x ∷ xs) zs (y ∷ ys) ws h k = (h.0, zips_append R xs zs ys ws h.1 k)
