-- The types of the first so many core functions, and that of the next one.
use Rattle.std.proofs.Common.{◌≡◌, ◌<◌, ◌+◌, ◌++◌, ℕ, zero, suc, List, [], ◌∷◌, length, take, map, refl, ap, ◌∙◌, arith, Some}
use Rattle.std.specs.List.{slice_get}
use Rattle.syntax_trees.specs.declared.module_types.FuncType as core
use Rattle.comp_graph.specs.declared.graph.CanonFunc.{CanonFunc}
use Rattle.comp_graph.specs.Graph.{canon_type}

next_type : (canons : List CanonFunc) (n : ℕ) (t : core.FuncType) → n < length canons → ((f : CanonFunc) → slice_get canons n ≡ Some f → t ≡ canon_type f)
    → map canon_type (take n canons) ++ t ∷ [] ≡ map canon_type (take (suc n) canons)
next_type [] n t l h = absurd (omega arith)
next_type (c ∷ canons) zero t l h = ap (λ (t : core.FuncType). t ∷ []) (h c refl)
next_type (c ∷ canons) (suc n) t l h = ap (λ (ts : List core.FuncType). canon_type c ∷ ts) (next_type canons n t (omega arith) h)

pub one_more_type : (canons : List CanonFunc) (types all : List core.FuncType) (t : core.FuncType) (n : ℕ) → n < length canons → types ≡ map canon_type (take n canons)
    → ((f : CanonFunc) → slice_get canons n ≡ Some f → t ≡ canon_type f) → all ≡ types ++ t ∷ [] → all ≡ map canon_type (take (n + 1) canons)
one_more_type canons types all t n l h is more =
    let next : suc n ≡ n + 1 = omega arith in
    more
    ∙ ap (λ (ts : List core.FuncType). ts ++ t ∷ []) h
    ∙ next_type canons n t l is
    ∙ ap (λ (k : ℕ). map canon_type (take k canons)) next
