-- Where each of some values passes the test of a type, each is of the type.
use Rattle.std.proofs.Common.{◌≡◌, subst, ℕ, zero, suc, true, List, [], ◌∷◌, Some}
use Rattle.std.specs.List.{list_all, slice_get}
use Rattle.syntax_trees.specs.declared.types.ValType.{ValType}
use Rattle.syntax_trees.specs.declared.value.Value.{Value}
use Rattle.syntax_trees.specs.Fits.{fits}
use Rattle.value_lower.specs.Fitting.{AllFit}
use Rattle.table_texts.proofs.There.{both}

one_fits : (all : List Value) (type : ValType) → list_all (λ v. fits v type) all ≡ true → (n : ℕ) (v : Value) → slice_get all n ≡ Some v → fits v type ≡ true
one_fits [] type h n v e = absurd cc
one_fits (x ∷ xs) type h zero v e = let t = (both (fits x type) (list_all (λ v. fits v type) xs) h).0 in cc
one_fits (x ∷ xs) type h (suc n) v e = one_fits xs type (both (fits x type) (list_all (λ v. fits v type) xs) h).1 n v e

pub all_fit : (all : List Value) (type : ValType) → list_all (λ v. fits v type) all ≡ true → AllFit all type
all_fit all type h = one_fits all type h

-- the same for a type that is told twice
pub all_fit_too : (all : List Value) (type same : ValType) → list_all (λ v. fits v type) all ≡ true → type ≡ same → AllFit all same
all_fit_too all type same h e = subst (λ (t : ValType). AllFit all t) e (one_fits all type h)
