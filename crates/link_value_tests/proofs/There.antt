-- Where each number of a list is below the count of types, the parts are there, and so are the types of parameters.
use Rattle.std.proofs.Common.{◌≡◌, ◌<◌, ℕ, zero, suc, Bool, true, false, ◌&&◌, List, [], ◌∷◌, length, refl, subst, Option, Some, None}
use Rattle.std.specs.Prelude.{nat_lt}
use Rattle.std.specs.List.{list_all}
use Rattle.std.proofs.lemmas.Bool.{ltb-true}
use Rattle.syntax_trees.specs.declared.types.ValType.{ValType}
use Rattle.laid_types.specs.Layers.{IsThere, AreThere}
use Rattle.link_types.specs.declared.labels.LabelledType.{LabelledType}
use Rattle.link_types.specs.Labels.{HaveTypes}
use Rattle.link_value_tests.specs.There.{is_there}

both : (a b : Bool) → (a && b) ≡ true → (a ≡ true) × (b ≡ true)
both true b h = (refl, h)
both false b h = absurd cc

one_there : (types : List ValType) (number : Option ℕ) → is_there (length types) number ≡ true → IsThere types number
one_there types (Some number) h = ltb-true _ _ h
one_there types None h = tt

pub each_there : (types : List ValType) (numbers : List (Option ℕ)) → list_all (λ x. is_there (length types) x) numbers ≡ true → AreThere types numbers
each_there types [] h = tt
each_there types (x ∷ xs) h =
    let t = both (is_there (length types) x) (list_all (λ x. is_there (length types) x) xs) h in
    (one_there types x t.0, each_there types xs t.1)

pub types_there : (values : List ValType) (params : List LabelledType) → list_all (λ (p : LabelledType). nat_lt p.val_type (length values)) params ≡ true → HaveTypes values params
types_there values [] h n p at = absurd cc
types_there values (x ∷ xs) h zero p at =
    let t = both (nat_lt x.val_type (length values)) (list_all (λ (p : LabelledType). nat_lt p.val_type (length values)) xs) h in
    let same : x ≡ p = cc in
    subst (λ (p : LabelledType). p.val_type < length values) same (ltb-true _ _ t.0)
types_there values (x ∷ xs) h (suc n) p at =
    let t = both (nat_lt x.val_type (length values)) (list_all (λ (p : LabelledType). nat_lt p.val_type (length values)) xs) h in
    types_there values xs t.1 n p at
