-- What the comparisons of types of functions tell.
use Rattle.std.proofs.Common.{◌≡◌, ◌∙◌, ◌↔◌, Bool, true, false, cond, List, [], ◌∷◌, refl, sym, ap₂, subst}
use Rattle.std.specs.Prelude.{IsTrue}
use Rattle.syntax_trees.specs.declared.module_types.ValType.{ValType}
use Rattle.syntax_trees.specs.declared.module_types.ValType.TheVariants.{I32, I64}
use Rattle.syntax_trees.specs.declared.module_types.FuncType.{FuncType}
use Rattle.syntax_trees.specs.SameTypes.{same_type, same_types}

both : (a b : Bool) → cond a b false ≡ true → (a ≡ true) × (b ≡ true)
both true b h = (refl, h)
both false b h = cc

type_same : (s t : ValType) → same_type s t ≡ true → s ≡ t
type_same I32 I32 h = refl
type_same I64 I64 h = refl
type_same I32 I64 h = cc
type_same I64 I32 h = cc

type_itself : (t : ValType) → same_type t t ≡ true
type_itself I32 = refl
type_itself I64 = refl

types_same : (ss ts : List ValType) → same_types ss ts ≡ true → ss ≡ ts
types_same [] [] h = refl
types_same [] (t ∷ ts) h = cc
types_same (s ∷ ss) [] h = cc
types_same (s ∷ ss) (t ∷ ts) h =
    let p = both (same_type s t) (same_types ss ts) h in
    ap₂ (λ (x : ValType) xs. x ∷ xs) (type_same s t p.0) (types_same ss ts p.1)

types_themselves : (ts : List ValType) → same_types ts ts ≡ true
types_themselves [] = refl
types_themselves (t ∷ ts) = rw (type_itself t) (types_themselves ts)

func_same : (t u : FuncType) → same_types t.params u.params ≡ true → same_types t.results u.results ≡ true → t ≡ u
func_same t u p r = ap₂ (λ params results. (let f : FuncType = record { params = params; results = results } in f)) (types_same t.params u.params p) (types_same t.results u.results r)

-- The comparison of results tells whether types are the same, where the parameters are; that of parameters, where they are not.
pub results_tell : (t u : FuncType) (a b : Bool) → a ≡ same_types t.params u.params → a ≡ true → b ≡ same_types t.results u.results → IsTrue b ↔ (t ≡ u)
results_tell t u a b e h f = (λ k. func_same t u (sym e ∙ h) (sym f ∙ k), λ same. f ∙ subst (λ (u : FuncType). same_types t.results u.results ≡ true) same (types_themselves t.results))

pub params_tell : (t u : FuncType) (a : Bool) → a ≡ same_types t.params u.params → a ≡ false → IsTrue a ↔ (t ≡ u)
params_tell t u a e h = (λ k. cc, λ same. e ∙ subst (λ (u : FuncType). same_types t.params u.params ≡ true) same (types_themselves t.params))
