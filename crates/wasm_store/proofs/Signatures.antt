-- Types of functions are compared as in the machine.
use Rattle.std.proofs.Common.{◌≡◌, Bool, true, false, ◌&&◌, List, [], ◌∷◌, refl, ap, sym, ◌∙◌}
use Rattle.syntax_trees.specs.declared.module_types.ValType.{ValType}
use Rattle.syntax_trees.specs.declared.module_types.ValType.TheVariants.{I32, I64}
use Rattle.syntax_trees.specs.declared.module_types.FuncType.{FuncType}
use Rattle.syntax_trees.specs.SameTypes as valid
use Rattle.wasm_store.specs.Step.{same_types, same_signature}

types_agree : (ts us : List ValType) → valid.same_types ts us ≡ same_types ts us
types_agree [] [] = refl
types_agree [] (u ∷ us) = refl
types_agree (t ∷ ts) [] = refl
types_agree (I32 ∷ ts) (I32 ∷ us) = types_agree ts us
types_agree (I32 ∷ ts) (I64 ∷ us) = refl
types_agree (I64 ∷ ts) (I32 ∷ us) = refl
types_agree (I64 ∷ ts) (I64 ∷ us) = types_agree ts us

pub both_same : (t u : FuncType) (a b : Bool) → a ≡ valid.same_types t.params u.params → b ≡ valid.same_types t.results u.results → a ≡ true → b ≡ same_signature t u
both_same t u a b first second h =
    let one : same_types t.params u.params ≡ true = sym (first ∙ types_agree t.params u.params) ∙ h in
    second ∙ types_agree t.results u.results ∙ sym (ap (λ (c : Bool). c && same_types t.results u.results) one)

pub not_same : (t u : FuncType) (a : Bool) → a ≡ valid.same_types t.params u.params → a ≡ false → false ≡ same_signature t u
not_same t u a first h =
    let one : same_types t.params u.params ≡ false = sym (first ∙ types_agree t.params u.params) ∙ h in
    sym (ap (λ (c : Bool). c && same_types t.results u.results) one)

types_self : (ts : List ValType) → same_types ts ts ≡ true
types_self [] = refl
types_self (I32 ∷ ts) = types_self ts
types_self (I64 ∷ ts) = types_self ts

pub signature_self : (t : FuncType) → same_signature t t ≡ true
signature_self t = rw (types_self t.params, types_self t.results) refl
