-- Parts by their places.
use Rattle.std.proofs.Common.{◌≡◌, ◌∙◌, ◌+◌, ◌<◌, ℕ, zero, suc, List, [], ◌∷◌, length, drop, Option, Some, None, refl, sym, ap, arith}
use Rattle.std.specs.List.{slice_get}
use Rattle.std.specs.Option.{option_and_then, option_map}
use Rattle.syntax_trees.specs.declared.types.ValType.{ValType}
use Rattle.value_lift.specs.Ledger.{Ledger}
use Rattle.value_lift.specs.Leaves.{part_in}
use Rattle.value_lift.specs.Answers.{plainly}
use Rattle.value_lift.specs.Over.{part, parts}
use Rattle.value_lift.specs.Lifting as plain

module _ {A : Type 0} where
  dropped : (xs : List (Option A)) (n : ℕ) (x : Option A) → slice_get xs n ≡ Some x → drop n xs ≡ x ∷ drop (suc n) xs
  dropped [] n x h = cc
  dropped (y ∷ xs) zero x h =
      let e : y ≡ x = cc in
      ap (λ (z : Option A). z ∷ xs) e
  dropped (y ∷ xs) (suc n) x h = dropped xs n x h

  within : (xs : List (Option A)) (n : ℕ) → n < length xs → (x : Option A) × (slice_get xs n ≡ Some x)
  within [] n h = absurd (omega arith)
  within (y ∷ xs) zero h = (y, refl)
  within (y ∷ xs) (suc n) h = within xs n (omega arith)

  some_part : (o : Option (Option A)) (a : A) → option_and_then (λ part. part) o ≡ Some a → o ≡ Some (Some a)
  some_part (Some x) a h = ap (λ (z : Option A). Some z) h
  some_part None a h = cc

  next : (xs : List (Option A)) (n : ℕ) (x : Option A) → slice_get xs n ≡ Some x → drop n xs ≡ x ∷ drop (n + 1) xs
  next xs n x h =
      let e : suc n ≡ n + 1 = omega arith in
      dropped xs n x h ∙ ap (λ (k : ℕ). x ∷ drop k xs) e

  -- a part that is there, and the parts behind it
  pub part_there : (xs : List (Option A)) (n : ℕ) (a : A) → option_and_then (λ part. part) (slice_get xs n) ≡ Some a → drop n xs ≡ Some a ∷ drop (n + 1) xs
  part_there xs n a h = next xs n (Some a) (some_part (slice_get xs n) a h)

  -- a place where no part stands
  pub part_absent : (xs : List (Option A)) (n : ℕ) → n < length xs → option_and_then (λ part. part) (slice_get xs n) ≡ None → drop n xs ≡ None ∷ drop (n + 1) xs
  part_absent xs n h e =
      let w = within xs n h in
      let none : w.0 ≡ None = sym (ap (λ (o : Option (Option A)). option_and_then (λ part. part) o) w.1) ∙ e in
      next xs n w.0 w.1 ∙ ap (λ (x : Option A). x ∷ drop (n + 1) xs) none

-- the parts of types
pub part_image_over : {S G : Type 0} (led : Ledger S G) (types : List (Option ValType)) (n : ℕ) → part_in (parts led types) n ≡ option_map (part led) (part_in types n)
part_image_over led [] n = refl
part_image_over led (None ∷ types) zero = refl
part_image_over led (Some t ∷ types) zero = refl
part_image_over led (t ∷ types) (suc n) = part_image_over led types n

pub part_image : (types : List (Option ValType)) (n : ℕ) → part_in (plain.parts types) n ≡ option_map plain.part (part_in types n)
part_image = part_image_over plainly
