-- Lists whose elements stand beside one another, where one more is put behind each.
use Rattle.std.proofs.Common.{◌≡◌, ◌∙◌, ℕ, List, [], ◌∷◌, ◌++◌, length, ap, suc, refl, sym, Option, Some, None}
use Rattle.std.specs.List.{slice_get, AllZip}
use Rattle.syntax_trees.specs.declared.exports.Export.{Export}
use Rattle.syntax_trees.specs.declared.types.FuncType.{FuncType}
use Rattle.comp_graph.specs.declared.graph.CanonFunc.{CanonFunc}
use Rattle.comp_graph.specs.Passed.{TypeTable, HasCanonType, AreCanonTypes, AreExportTypes}

zips_more : {A B : Type 0} (R : A → B → Type 0) (xs : List A) (ys : List B) (x : A) (y : B) → AllZip R xs ys → R x y → AllZip R (xs ++ x ∷ []) (ys ++ y ∷ [])
zips_more R [] [] x y h k = (k, tt)
zips_more R [] (b ∷ ys) x y h k = absurd h
zips_more R (a ∷ xs) [] x y h k = absurd h
zips_more R (a ∷ xs) (b ∷ ys) x y h k = (h.0, zips_more R xs ys x y h.1 k)

pub canons_more : (types : TypeTable) (numbers : List (Option ℕ)) (canons : List CanonFunc) (n : Option ℕ) (f : CanonFunc) (more : List (Option ℕ)) (made : List CanonFunc) → AreCanonTypes types numbers canons
    → HasCanonType types n f → more ≡ numbers ++ n ∷ [] → made ≡ canons ++ f ∷ [] → AreCanonTypes types more made
canons_more types numbers canons n f more made h is put pushed = rw (put, pushed) (zips_more (HasCanonType types) numbers canons n f h is)

pub exports_more : (funcs : List FuncType) (numbers : List ℕ) (exports : List Export) (n : ℕ) (e : Export) (more : List ℕ) (made : List Export) → AreExportTypes funcs numbers exports
    → slice_get funcs n ≡ Some e.func_type → more ≡ numbers ++ n ∷ [] → made ≡ exports ++ e ∷ [] → AreExportTypes funcs more made
exports_more funcs numbers exports n e more made h is put pushed =
    rw (put, pushed) (zips_more (λ (n : ℕ) (e : Export). slice_get funcs n ≡ Some e.func_type) numbers exports n e h is)

one_more : {A : Type 0} (xs : List A) (x : A) → length (xs ++ x ∷ []) ≡ suc (length xs)
one_more [] x = refl
one_more (y ∷ xs) x = ap suc (one_more xs x)

longer : {A B : Type 0} (xs : List A) (ys : List B) (x : A) (y : B) → length xs ≡ length ys → length (xs ++ x ∷ []) ≡ length (ys ++ y ∷ [])
longer xs ys x y same = one_more xs x ∙ ap suc same ∙ sym (one_more ys y)

pub as_many : {A B : Type 0} (xs : List A) (ys : List B) (x : A) (y : B) (more : List A) (made : List B) → length xs ≡ length ys → more ≡ xs ++ x ∷ [] → made ≡ ys ++ y ∷ [] → length more ≡ length made
as_many xs ys x y more made same put pushed = rw (put, pushed) (longer xs ys x y same)
