-- What numbers tell.
use Rattle.std.proofs.Common.{◌≡◌, ◌∙◌, ◌↔◌, ℕ, List, [], ◌∷◌, ap, sym, Some, Option, inl, inr}
use Rattle.std.specs.List.{slice_get}
use Rattle.syntax_trees.specs.declared.types.ValType.{ValType}
use Rattle.link_values.specs.Numbering.{AreApart, IsAdded}
use Rattle.link_values.proofs.Numbered.{stays_at}

one_at : (types : List ValType) (m n : ℕ) (t u : ValType) → slice_get types m ≡ Some t → slice_get types n ≡ Some u → m ≡ n → t ≡ u
one_at types m n t u h g e = let s : ◌≡◌ {A = Option ValType} (Some t) (Some u) = sym h ∙ ap (slice_get types) e ∙ g in cc

pub equal_by_number : (types : List ValType) → AreApart types → (m n : ℕ) (t u : ValType) → slice_get types m ≡ Some t → slice_get types n ≡ Some u → (m ≡ n) ↔ (t ≡ u)
equal_by_number types apart m n t u h g = (one_at types m n t u h g, λ e. apart m n t h (g ∙ ap (λ (v : ValType). Some v) (sym e)))

pub still_there : (old new : List ValType) (added : ValType) (number : ℕ) → IsAdded old added number new → (n : ℕ) (t : ValType) → slice_get old n ≡ Some t → slice_get new n ≡ Some t
still_there old new added number a n t h = elim a.1 [
  | inl same ↦ rw same h
  | inr more ↦ rw more (stays_at old (added ∷ []) n t h)
]
