-- Two lists that stand for each other, place by place, and what is found in them.
use Rattle.std.proofs.Common.{◌≡◌, ℕ, zero, suc, List, [], ◌∷◌, length, map, refl, sym, Option, Some, None}
use Rattle.std.specs.List.{slice_get, AllZip}
use Rattle.std.proofs.lemmas.Slice.Zip.{AllZip-long}
use Rattle.link_meanings.specs.Meant.{IsFoundAs}

-- What stands at a place of the one is found at that place of the other.
pub found_at : {A B : Type 0} (R : B → A → Type 0) (xs : List B) (ys : List A) (k : ℕ) → AllZip R xs ys → IsFoundAs R (slice_get xs k) (slice_get ys k)
found_at R [] [] k h = refl
found_at R [] (y ∷ ys) k h = absurd h
found_at R (x ∷ xs) [] k h = absurd h
found_at R (x ∷ xs) (y ∷ ys) zero h = (y, refl, h.0)
found_at R (x ∷ xs) (y ∷ ys) (suc k) h = found_at R xs ys k h.1

pub as_many : {A B : Type 0} (R : B → A → Type 0) (xs : List B) (ys : List A) → AllZip R xs ys → length xs ≡ length ys
as_many R xs ys h = sym (AllZip-long R xs ys h)

-- What is found as the one says is found as the other says.
pub found_stays : {A B : Type 0} (R Q : B → A → Type 0) → ((x : B) (y : A) → R x y → Q x y) → (o : Option B) (p : Option A) → IsFoundAs R o p → IsFoundAs Q o p
found_stays R Q f None p h = h
found_stays R Q f (Some x) p h = (h.0, h.1, f x h.0 h.2)

-- Where all have a meaning, all are found.
pub all_known : {A B : Type 0} (R : B → A → Type 0) (xs : List B) (ys : List A) → AllZip R xs ys → AllZip (IsFoundAs R) (map Some xs) (map Some ys)
all_known R [] [] h = tt
all_known R [] (y ∷ ys) h = absurd h
all_known R (x ∷ xs) [] h = absurd h
all_known R (x ∷ xs) (y ∷ ys) h = ((y, refl, h.0), all_known R xs ys h.1)
