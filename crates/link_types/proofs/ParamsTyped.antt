-- The type of arguments, by the numbers of the parameters' types.
use Rattle.std.proofs.Common.{◌≡◌, ◌∙◌, ℕ, suc, List, [], ◌∷◌, map, refl, ap, Some, Option}
use Rattle.std.specs.Prelude.{unwrap_or}
use Rattle.std.specs.List.{slice_get, AllZip}
use Rattle.syntax_trees.specs.declared.types.ValType.{ValType}
use Rattle.syntax_trees.specs.declared.types.ValType.TheVariants as leaves
use Rattle.syntax_trees.specs.declared.types.ValType.TheViews as val_type
use Rattle.syntax_trees.specs.declared.types.Param.{Param}
use Rattle.syntax_trees.specs.declared.types.FuncType.{FuncType}
use Rattle.laid_types.specs.Layers.{AreThere, tree_at}
use Rattle.comp_graph.specs.Passed.{params_type}
use Rattle.link_types.specs.declared.labels.LabelledType.{LabelledType}
use Rattle.link_types.specs.Labels.{HaveTypes, IsParam}

abbrev pub numbers_of : List LabelledType → List ℕ
numbers_of params = map (λ (p : LabelledType). p.val_type) params

pub all_there : (values : List ValType) (params : List LabelledType) → HaveTypes values params → AreThere values (map Some (numbers_of params))
all_there values [] h = tt
all_there values (p ∷ params) h = (h 0 p refl, all_there values params (λ n q at. h (suc n) q at))

two_alike : {A : Type 0} (x y : A) (xs ys : List A) → x ≡ y → xs ≡ ys → x ∷ xs ≡ y ∷ ys
two_alike x y xs ys e f = cc

trees_are : (values : List ValType) (params : List LabelledType) (all : List Param) → AllZip (IsParam values) params all → map (tree_at values) (numbers_of params) ≡ map (λ (p : Param). p.val_type) all
trees_are values [] [] h = refl
trees_are values [] (q ∷ all) h = absurd h
trees_are values (p ∷ params) [] h = absurd h
trees_are values (p ∷ params) (q ∷ all) h =
    two_alike (tree_at values p.val_type) q.val_type (map (tree_at values) (numbers_of params)) (map (λ (p : Param). p.val_type) all) (ap (λ (o : Option ValType). unwrap_or o leaves.Bool) h.0.1) (trees_are values params all h.1)

pub params_typed : (values new : List ValType) (params : List LabelledType) (numbers : List ℕ) (number : ℕ) → numbers ≡ numbers_of params → slice_get new number ≡ Some (val_type.Tuple (map (tree_at values) numbers))
    → (type : FuncType) → AllZip (IsParam values) params type.params → slice_get new number ≡ Some (params_type type)
params_typed values new params numbers number are at type h =
    at ∙ ap (λ (numbers : List ℕ). Some (val_type.Tuple (map (tree_at values) numbers))) are ∙ ap (λ (types : List ValType). Some (val_type.Tuple types)) (trees_are values params type.params h)
