-- The order of lists tells apart what differs in an item.
use Rattle.std.proofs.Common.{◌≡◌, List, [], ◌∷◌, map, refl}
use Rattle.std.specs.declared.cmp.Ordering.{Ordering}
use Rattle.std.specs.declared.cmp.Ordering.TheVariants.{Less, Equal, Greater}
use Rattle.std.specs.Ordering.{ordering_then}
use Rattle.std.specs.Cmp.Lexicographic.{slice_cmp}

pub then_equal : (o p : Ordering) → ordering_then o p ≡ Equal → (o ≡ Equal) × (p ≡ Equal)
then_equal Less p h = cc
then_equal Equal p h = (refl, h)
then_equal Greater p h = cc

pub both_equal : (o p : Ordering) → o ≡ Equal → p ≡ Equal → ordering_then o p ≡ Equal
both_equal o p e h = rw e h

module _ {A B : Type 0} (cmp : A → A → Ordering) (f : A → B) where
  pub list_exact : ((x y : A) → cmp x y ≡ Equal → f x ≡ f y) → (xs ys : List A) → slice_cmp cmp xs ys ≡ Equal → map f xs ≡ map f ys
  list_exact exact [] [] h = refl
  list_exact exact [] (y ∷ ys) h = cc
  list_exact exact (x ∷ xs) [] h = cc
  list_exact exact (x ∷ xs) (y ∷ ys) h =
      let p = then_equal (cmp x y) (slice_cmp cmp xs ys) h in
      let a = exact x y p.0 in
      let b = list_exact exact xs ys p.1 in
      cc

  pub list_tied : ((x y : A) → f x ≡ f y → cmp x y ≡ Equal) → (xs ys : List A) → map f xs ≡ map f ys → slice_cmp cmp xs ys ≡ Equal
  list_tied tied [] [] h = refl
  list_tied tied [] (y ∷ ys) h = cc
  list_tied tied (x ∷ xs) [] h = cc
  list_tied tied (x ∷ xs) (y ∷ ys) h =
      let a : f x ≡ f y = cc in
      let b : map f xs ≡ map f ys = cc in
      both_equal (cmp x y) (slice_cmp cmp xs ys) (tied x y a) (list_tied tied xs ys b)
