-- What holds of all items of lists, and of lists with an item in another one's place.
use Rattle.std.proofs.Common.{◌≡◌, ◌<◌, ◌+◌, ℕ, zero, suc, Bool, true, false, ◌&&◌, if◌then◌else◌, List, [], ◌∷◌, ◌++◌, length, take, drop, set, replicate, refl, ap, sym, ◌∙◌, subst, arith, Option, Some, None}
use Rattle.std.specs.List.{slice_get, AllByRecursion}
use Rattle.std.specs.Option.{option_map}
use Rattle.wasm_store.specs.Instantiation.{overwritten}
use Rattle.wasm_store.specs.Store.{found_at}
use Rattle.wasm_store.specs.Typed.{Keeps}

pub if_both : {X : Type 0} (P : X → Type 0) (b : Bool) (x y : X) → (b ≡ true → P x) → (b ≡ false → P y) → P (if b then x else y)
if_both P true x y h k = h refl
if_both P false x y h k = k refl

pub both_true : (a b : Bool) → a && b ≡ true → (a ≡ true) × (b ≡ true)
both_true true true h = (refl, refl)
both_true true false h = cc
both_true false b h = cc

pub all_at : {X : Type 0} (P : X → Type 0) (xs : List X) (a : ℕ) (x : X) → AllByRecursion P xs → slice_get xs a ≡ Some x → P x
all_at P [] a x h e = cc
all_at P (y ∷ xs) zero x h e = let same : y ≡ x = cc in subst P same h.0
all_at P (y ∷ xs) (suc a) x h e = all_at P xs a x h.1 e

pub all_map : {X : Type 0} (P Q : X → Type 0) → ((x : X) → P x → Q x) → (xs : List X) → AllByRecursion P xs → AllByRecursion Q xs
all_map P Q f [] h = tt
all_map P Q f (x ∷ xs) h = (f x h.0, all_map P Q f xs h.1)

pub all_append : {X : Type 0} (P : X → Type 0) (xs ys : List X) → AllByRecursion P xs → AllByRecursion P ys → AllByRecursion P (xs ++ ys)
all_append P [] ys h k = k
all_append P (x ∷ xs) ys h k = (h.0, all_append P xs ys h.1 k)

pub all_set : {X : Type 0} (P : X → Type 0) (xs : List X) (a : ℕ) (y : X) → AllByRecursion P xs → P y → AllByRecursion P (set xs a y)
all_set P [] a y h k = tt
all_set P (x ∷ xs) zero y h k = (k, h.1)
all_set P (x ∷ xs) (suc a) y h k = (h.0, all_set P xs a y h.1 k)

pub all_take : {X : Type 0} (P : X → Type 0) (n : ℕ) (xs : List X) → AllByRecursion P xs → AllByRecursion P (take n xs)
all_take P zero xs h = tt
all_take P (suc n) [] h = tt
all_take P (suc n) (x ∷ xs) h = (h.0, all_take P n xs h.1)

pub all_drop : {X : Type 0} (P : X → Type 0) (n : ℕ) (xs : List X) → AllByRecursion P xs → AllByRecursion P (drop n xs)
all_drop P zero xs h = h
all_drop P (suc n) [] h = tt
all_drop P (suc n) (x ∷ xs) h = all_drop P n xs h.1

pub all_replicate : {X : Type 0} (P : X → Type 0) (n : ℕ) (x : X) → P x → AllByRecursion P (replicate n x)
all_replicate P zero x h = tt
all_replicate P (suc n) x h = (h, all_replicate P n x h)

pub all_overwritten : (P : Option ℕ → Type 0) (at : ℕ) (new old : List (Option ℕ)) → AllByRecursion P new → AllByRecursion P old → AllByRecursion P (overwritten at new old)
all_overwritten P at new old h k =
    all_append P (take at old ++ new) (drop (at + length new) old) (all_append P (take at old) new (all_take P at old k) h) (all_drop P (at + length new) old k)

-- an item within a list
pub get_within : {X : Type 0} (xs : List X) (i : ℕ) → i < length xs → (x : X) × (slice_get xs i ≡ Some x)
get_within [] i h = absurd (omega arith)
get_within (x ∷ xs) zero h = (x, refl)
get_within (x ∷ xs) (suc i) h = get_within xs i (omega arith)

-- what is found at an address stands there
pub found_there : {X : Type 0} (xs : List X) (o : Option ℕ) (p : ℕ × X) → found_at xs o ≡ Some p → (o ≡ Some p.0) × (slice_get xs p.0 ≡ Some p.1)
found_there xs None p e = cc
found_there {X} xs (Some a) p e = by (slice_get xs a) refl
  where
    by : (o : Option X) → slice_get xs a ≡ o → (Some a ≡ Some p.0) × (slice_get xs p.0 ≡ Some p.1)
    by None k = cc
    by (Some x) k =
        let whole : (let q : Option (ℕ × X) = Some (a, x) in q) ≡ Some p = sym (ap (option_map (λ x. (a, x))) k) ∙ e in
        let both : (let q : ℕ × X = (a, x) in q) ≡ p = cc in
        (ap (λ (q : ℕ × X). Some q.0) both, subst (λ (q : ℕ × X). slice_get xs q.0 ≡ Some q.1) both k)

pub keeps_same : {X : Type 0} (R : X → X → Type 0) → ((x : X) → R x x) → (xs : List X) → Keeps R xs xs
keeps_same R r xs a x e = (x, e, r x)

pub keeps_append : {X : Type 0} (R : X → X → Type 0) → ((x : X) → R x x) → (xs more : List X) → Keeps R xs (xs ++ more)
keeps_append R r [] more a x e = cc
keeps_append R r (y ∷ xs) more zero x e = (x, e, r x)
keeps_append R r (y ∷ xs) more (suc a) x e = keeps_append R r xs more a x e

pub keeps_set : {X : Type 0} (R : X → X → Type 0) → ((x : X) → R x x) → (xs : List X) (a : ℕ) (x y : X) → slice_get xs a ≡ Some x → R x y → Keeps R xs (set xs a y)
keeps_set R r [] a x y e h b z f = cc
keeps_set R r (w ∷ xs) zero x y e h zero z f =
    let same : x ≡ z = cc in
    (y, refl, subst (λ u. R u y) same h)
keeps_set R r (w ∷ xs) zero x y e h (suc b) z f = (z, f, r z)
keeps_set R r (w ∷ xs) (suc a) x y e h zero z f = (z, f, r z)
keeps_set R r (w ∷ xs) (suc a) x y e h (suc b) z f = keeps_set R r xs a x y e h b z f
