-- In a table in which each type stands once, a type has one key, a key is of one type, and both stay so as types are added.
use Rattle.std.proofs.Common.{◌≡◌, ◌∙◌, ℕ, List, [], ◌∷◌, ◌++◌, ap, sym, refl, subst, Some, None, Option}
use Rattle.std.specs.declared.cmp.Ordering.TheVariants.{Equal}
use Rattle.syntax_trees.specs.declared.types.ValType.{ValType}
use Rattle.laid_types.specs.Parts.{labels_of}
use Rattle.laid_types.specs.Layers.{IsThere, AreThere, tree_of, trees_of, tree_at}
use Rattle.laid_types.proofs.OfLayers.{there_tree}
use Rattle.laid_types.proofs.Growing.{are_there_more, trees_stay}
use Rattle.link_values.specs.declared.keys.ValueKey.{ValueKey}
use Rattle.link_values.specs.Keys.{IsKeyOf}
use Rattle.link_values.specs.Keyed.{key_cmp}
use Rattle.link_values.specs.Labels.{list_number, AreListed}
use Rattle.link_values.specs.Numbering.{AreApart}
use Rattle.link_values.proofs.KeyOrder.{key_exact, key_tied}
use Rattle.link_values.proofs.TypesSame.{types_same}

-- Numbers of the same parts are the same.
part_one : (types : List ValType) (x y : Option ℕ) → AreApart types → IsThere types x → IsThere types y → tree_of types x ≡ tree_of types y → x ≡ y
part_one types None None apart hx hy e = refl
part_one types None (Some n) apart hx hy e = let at = there_tree types n hy in cc
part_one types (Some m) None apart hx hy e = let at = there_tree types m hx in cc
part_one types (Some m) (Some n) apart hx hy e =
    let at = there_tree types m hx in
    ap (λ (k : ℕ). Some k) (apart m n (tree_at types m) at (sym e ∙ at))

parts_one : (types : List ValType) (xs ys : List (Option ℕ)) → AreApart types → AreThere types xs → AreThere types ys → trees_of types xs ≡ trees_of types ys → xs ≡ ys
parts_one types [] [] apart hx hy e = refl
parts_one types [] (y ∷ ys) apart hx hy e = cc
parts_one types (x ∷ xs) [] apart hx hy e = cc
parts_one types (x ∷ xs) (y ∷ ys) apart hx hy e =
    let here : tree_of types x ≡ tree_of types y = cc in
    let behind : trees_of types xs ≡ trees_of types ys = cc in
    let first = part_one types x y apart hx.0 hy.0 here in
    let others = parts_one types xs ys apart hx.1 hy.1 behind in
    cc

module _ (lists : List (List (List ℕ) × ℕ)) (types : List ValType) where
  pub one_key : (x y : ValueKey) (t : ValType) → AreApart types → IsKeyOf lists types x t → IsKeyOf lists types y t → key_cmp x y ≡ Equal
  one_key x y t apart h g =
      let labels : x.labels ≡ y.labels = (let both : ◌≡◌ {A = Option ℕ} (Some x.labels) (Some y.labels) = sym h.labels_are ∙ g.labels_are in cc) in
      key_tied x y (h.form_is ∙ sym g.form_is) (h.resource_is ∙ sym g.resource_is) labels (parts_one types x.parts.items y.parts.items apart h.there g.there (h.parts_are ∙ sym g.parts_are))

  pub one_type : (key : ValueKey) (t u : ValType) → AreListed lists → IsKeyOf lists types key t → IsKeyOf lists types key u → t ≡ u
  one_type key t u listed h g =
      types_same t u (sym h.form_is ∙ g.form_is) (sym h.resource_is ∙ g.resource_is) (listed.one (labels_of t) (labels_of u) key.labels h.labels_are g.labels_are) (sym h.parts_are ∙ g.parts_are)

  pub equal_key : (x y : ValueKey) (t : ValType) → key_cmp x y ≡ Equal → IsKeyOf lists types x t → IsKeyOf lists types y t
  equal_key x y t e h =
      let p = key_exact x y e in
      record {
        form_is = sym p.0 ∙ h.form_is;
        resource_is = sym p.1 ∙ h.resource_is;
        labels_are = h.labels_are ∙ ap (λ (n : ℕ). Some n) p.2;
        there = subst (AreThere types) p.3 h.there;
        parts_are = ap (trees_of types) (sym p.3) ∙ h.parts_are;
      }

  pub key_more : (more : List ValType) (key : ValueKey) (t : ValType) → IsKeyOf lists types key t → IsKeyOf lists (types ++ more) key t
  key_more more key t h = record {
    form_is = h.form_is;
    resource_is = h.resource_is;
    labels_are = h.labels_are;
    there = are_there_more types more key.parts.items h.there;
    parts_are = trees_stay types more key.parts.items h.there ∙ h.parts_are;
  }

  pub key_stays : (longer : List (List (List ℕ) × ℕ)) → ((q : List (List ℕ)) (n : ℕ) → list_number lists q ≡ Some n → list_number longer q ≡ Some n) → (key : ValueKey) (t : ValType) → IsKeyOf lists types key t → IsKeyOf longer types key t
  key_stays longer stays key t h = record {
    form_is = h.form_is;
    resource_is = h.resource_is;
    labels_are = stays (labels_of t) key.labels h.labels_are;
    there = h.there;
    parts_are = h.parts_are;
  }
