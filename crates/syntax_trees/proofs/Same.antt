-- Lists of types.
use Rattle.std.proofs.Common.{◌≡◌, Bool, true, false, cond, List, [], ◌∷◌, length, suc, refl, ap}
use Rattle.syntax_trees.specs.declared.module_types.ValType.{ValType}
use Rattle.syntax_trees.specs.SameTypes.{same_type, same_types}

-- lists of types of other lengths differ
cond_false : (b c : Bool) → false ≡ c → false ≡ cond b c false
cond_false true c h = h
cond_false false c h = refl

pub differ : (left right : List ValType) → (length left ≡ length right → ⊥) → false ≡ same_types left right
differ [] [] h = absurd (h refl)
differ [] (t ∷ ts) h = refl
differ (s ∷ ss) [] h = refl
differ (s ∷ ss) (t ∷ ts) h = cond_false (same_type s t) (same_types ss ts) (differ ss ts (λ e. h (ap suc e)))
