-- Lists that are gone through place by place.
use Rattle.std.proofs.Common.{◌≡◌, ◌<◌, ◌≤◌, slice_index_or, ℕ, zero, suc, ◌+◌, Bool, true, false, nat_lt, ◌&&◌, List, [], ◌∷◌, length, drop, refl, sym, ap, ◌∙◌, arith, Some, None}
use Rattle.std.specs.List.{slice_get, list_all}
use Rattle.std.proofs.lemmas.Bool.Decides.{nat_tests}
use Rattle.std.proofs.lemmas.Option.{slice_get_past}
use Rattle.link_instances.proofs.Places.{drop_at, drop_past}

-- Tests of all that is left.
pub all_at : {A : Type 0} (f : A → Bool) (xs : List A) (k : ℕ) (x : A) (b : Bool) → slice_get xs k ≡ Some x → f x ≡ b → list_all f (drop k xs) ≡ (b && list_all f (drop (k + 1) xs))
all_at f xs k x b h is = rw (drop_at xs k x h, is) refl

pub all_past : {A : Type 0} (f : A → Bool) (xs : List A) (k : ℕ) → slice_get xs k ≡ None → list_all f (drop k xs) ≡ true
all_past f xs k h = rw (drop_past xs k h) refl

-- an item within a list
pub item_or : {A : Type 0} (xs : List A) (k : ℕ) (d : A) → k < length xs → slice_get xs k ≡ Some (slice_index_or xs k d)
item_or [] k d h = absurd (omega (arith, h))
item_or (y ∷ ys) zero d h = refl
item_or (y ∷ ys) (suc k) d h = item_or ys k d (omega (arith, h))

-- an item that a loop over a slice gives
pub item_at : {A : Type 0} (xs : List A) (k : ℕ) (x : A) → k < length xs → x ≡ slice_index_or xs k x → slice_get xs k ≡ Some x
item_at {A} xs k x within is = item_or xs k x within ∙ ap (λ (y : A). Some y) (sym is)

-- behind the last one
pub past_at : {A : Type 0} (xs : List A) (k : ℕ) → length xs ≤ k → slice_get xs k ≡ None
past_at xs k h = slice_get_past xs k h

-- numbers as tests
pub lt_true : (a b : ℕ) → a < b → nat_lt a b ≡ true
lt_true a b h = grind (arith, nat_tests)

pub lt_false : (a b : ℕ) → b ≤ a → nat_lt a b ≡ false
lt_false a b h = grind (arith, nat_tests)
