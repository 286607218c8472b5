-- Types are told by their numbers in a table in which no type stands twice.
use Rattle.std.proofs.Common.{◌≡◌, ◌∙◌, ℕ, List, true, false, Option, Some, ap, sym, inl, inr}
use Rattle.std.specs.Prelude.{nat_eq}
use Rattle.std.specs.List.{slice_get}
use Rattle.std.proofs.lemmas.Bool.{cases_Bool}
use Rattle.std.proofs.lemmas.Bool.Decides.{Decides-eqb}
use Rattle.syntax_trees.specs.declared.types.ValType.{ValType}
use Rattle.laid_types.specs.SameTypes.{same_val, AreDistinct}
use Rattle.laid_types.proofs.SameTypes.{val_told}

pub told_by_numbers : (types others : List ValType) (a b : ℕ) (s t : ValType) → AreDistinct types → types ≡ others → slice_get types a ≡ Some s
    → slice_get others b ≡ Some t → nat_eq a b ≡ same_val s t
told_by_numbers types others a b s t distinct one at_a at_b = elim (cases_Bool (nat_eq a b)) [
  | inl is ↦
      (let e : a ≡ b = (Decides-eqb a b).0 is in
      let found : Some s ≡ Some t = sym at_a ∙ ap (λ (k : ℕ). slice_get types k) e ∙ ap (λ (xs : List ValType). slice_get xs b) one ∙ at_b in
      let same : s ≡ t = cc in
      is ∙ sym ((val_told s t).1 same))
  | inr isnt ↦ elim (cases_Bool (same_val s t)) [
    | inl told ↦
        (let same : s ≡ t = (val_told s t).0 told in
        let e : a ≡ b = distinct a b t (at_a ∙ ap (λ (u : ValType). Some u) same) (ap (λ (xs : List ValType). slice_get xs b) one ∙ at_b) in
        (Decides-eqb a b).1 e ∙ sym told)
    | inr untold ↦ isnt ∙ sym untold
  ]
]
