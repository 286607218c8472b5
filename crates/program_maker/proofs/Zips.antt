-- Lists that are told item by item.
use Rattle.std.proofs.Common.{◌≡◌, ◌<◌, ◌+◌, ℕ, zero, suc, List, [], ◌∷◌, ◌++◌, length, take, get_or, refl, sym, subst, arith}
use Rattle.std.specs.List.{AllZip}
use Rattle.std.proofs.lemmas.Slice.Zip.{all_zipped_more}
use Rattle.syntax_trees.proofs.Seen.{take_one}

-- A list has an item at each place within it.
pub item_at : {A : Type 0} (xs : List A) (at : ℕ) → at < length xs → (x : A) × (x ≡ get_or xs at x)
item_at [] at l = absurd (omega arith)
item_at (x ∷ xs) zero l = (x, refl)
item_at (x ∷ xs) (suc at) l = item_at xs at (omega arith)

-- What holds of the items at a place.
pub zip_reads : {A B : Type 0} (R : A → B → Type 0) (xs : List A) (ys : List B) (at : ℕ) (x d : A) (y : B) → AllZip R xs ys → at < length ys → x ≡ get_or xs at d → y ≡ get_or ys at y → R x y
zip_reads R [] [] at x d y h l i j = absurd (omega arith)
zip_reads R [] (z ∷ ys) at x d y h l i j = absurd h
zip_reads R (w ∷ xs) [] at x d y h l i j = absurd h
zip_reads R (w ∷ xs) (z ∷ ys) zero x d y h l i j = subst (λ (v : _). R v y) (sym i) (subst (R w) (sym j) h.0)
zip_reads R (w ∷ xs) (z ∷ ys) (suc at) x d y h l i j = zip_reads R xs ys at x d y h.1 (omega arith) i j

-- One item more is told.
pub zip_step : {A B : Type 0} (R : A → B → Type 0) (xs new : List A) (ys : List B) (at : ℕ) (x : A) (y : B) → AllZip R xs (take at ys) → at < length ys → y ≡ get_or ys at y → R x y → new ≡ xs ++ x ∷ []
    → AllZip R new (take (at + 1) ys)
zip_step R xs new ys at x y h l i r pushed =
    subst (λ (zs : List _). AllZip R new zs) (sym (take_one ys at y l i)) (subst (λ (zs : List _). AllZip R zs (take at ys ++ y ∷ [])) (sym pushed) (all_zipped_more R xs (take at ys) x y h r))

-- The same of the same lists, of what is the same.
pub zip_moved : {A B X : Type 0} (R : X → A → B → Type 0) (v w : X) (xs : List A) (ys zs : List B) → AllZip (R v) xs ys → w ≡ v → ys ≡ zs → AllZip (R w) xs zs
zip_moved R v w xs ys zs h e f = subst (λ (u : _). AllZip (R u) xs zs) (sym e) (subst (λ (all : List _). AllZip (R v) xs all) f h)
