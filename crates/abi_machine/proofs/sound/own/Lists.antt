-- Lists that grow at their end, in which an item is set, or from an item on; and options that are mapped.
use Rattle.std.proofs.Common.{◌≡◌, ◌<◌, ◌⊎◌, inl, inr, ◌+◌, ℕ, zero, suc, List, [], ◌∷◌, ◌++◌, length, drop, set, refl, ap, ◌∙◌, arith, Option, Some, None}
use Rattle.std.specs.List.{slice_get, AllByRecursion}
use Rattle.std.specs.Option.{option_map, option_and_then}
use Rattle.wasm_store.specs.Store.{Store}
use Rattle.wasm_store.specs.Instantiation.{Instantiation, Makes, SegmentBounds, written_then, all_written}

pub set_length : {A : Type 0} (xs : List A) (n : ℕ) (y : A) → length (set xs n y) ≡ length xs
set_length [] n y = refl
set_length (x ∷ xs) zero y = refl
set_length (x ∷ xs) (suc n) y = ap suc (set_length xs n y)

pub within : {A : Type 0} (xs : List A) (n : ℕ) (x : A) → slice_get xs n ≡ Some x → n < length xs
within [] n x h = cc
within (y ∷ xs) zero x h = omega arith
within (y ∷ xs) (suc n) x h = let less : n < length xs = within xs n x h in omega (arith, less)

pub get_front : {A : Type 0} (xs more : List A) (n : ℕ) (x : A) → slice_get xs n ≡ Some x → slice_get (xs ++ more) n ≡ Some x
get_front [] more n x h = cc
get_front (y ∷ xs) more zero x h = h
get_front (y ∷ xs) more (suc n) x h = get_front xs more n x h

pub get_last : {A : Type 0} (xs : List A) (y : A) (n : ℕ) (x : A) → slice_get (xs ++ y ∷ []) n ≡ Some x → (slice_get xs n ≡ Some x) ⊎ ((n ≡ length xs) × (y ≡ x))
get_last [] y zero x h = inr (refl, cc)
get_last [] y (suc n) x h = cc
get_last (z ∷ xs) y zero x h = inl h
get_last (z ∷ xs) y (suc n) x h = elim (get_last xs y n x h) [
  | inl k ↦ inl k
  | inr k ↦ inr (ap (λ (n : ℕ). suc n) k.0, k.1)
]

drop_some : {A : Type 0} (xs : List A) (n : ℕ) (x : A) → slice_get xs n ≡ Some x → drop n xs ≡ x ∷ drop (suc n) xs
drop_some [] n x h = cc
drop_some (y ∷ xs) zero x h = let same : y ≡ x = cc in ap (λ y. y ∷ xs) same
drop_some (y ∷ xs) (suc n) x h = drop_some xs n x h

pub drop_next : {A : Type 0} (xs : List A) (n : ℕ) (x : A) → slice_get xs n ≡ Some x → drop n xs ≡ x ∷ drop (n + 1) xs
drop_next xs n x h =
    let one : suc n ≡ n + 1 = omega arith in
    drop_some xs n x h ∙ ap (λ (k : ℕ). x ∷ drop k xs) one

pub map_some : {A B : Type 0} (f : A → B) (o : Option A) (y : B) → option_map f o ≡ Some y → (x : A) × (o ≡ Some x) × (f x ≡ y)
map_some f None y h = cc
map_some f (Some x) y h = (x, refl, cc)

pub then_some : {A B : Type 0} (f : A → Option B) (o : Option A) (y : B) → option_and_then f o ≡ Some y → (x : A) × (o ≡ Some x) × (f x ≡ Some y)
then_some f None y h = cc
then_some f (Some x) y h = (x, refl, h)

-- What holds of the store that instantiation leaves: it holds where it holds before the segments, and each segment that is written keeps it.
abbrev pub LeavesWith : (Store → Type 0) → Instantiation → Type 0
LeavesWith P (Makes t) = P t
LeavesWith P (SegmentBounds t) = P t

pub written_leaves : {A : Type 0} (P : Store → Type 0) (Q : A → Type 0) (f : Store → A → Option Store) → ((u v : Store) (x : A) → Q x → P u → f u x ≡ Some v → P v) → (more : Store → Instantiation) → ((u : Store) → P u → LeavesWith P (more u)) → (xs : List A) → AllByRecursion Q xs → (u : Store) → P u → LeavesWith P (all_written f xs u more)
written_leaves P Q f step more last [] q u h = last u h
written_leaves P Q f step more last (x ∷ xs) q u h = by (f u x) refl (λ v k. written_leaves P Q f step more last xs q.1 v k)
  where
    by : (o : Option Store) → f u x ≡ o → ((v : Store) → P v → LeavesWith P (all_written f xs v more)) → LeavesWith P (written_then o u (λ t. all_written f xs t more))
    by None e others = h
    by (Some v) e others = others v (step u v x q.0 h e)
