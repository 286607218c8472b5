-- The type of a layer that is added, and a key that is taken out again where there is no memory for its type.
use Rattle.std.proofs.Common.{◌≡◌, ◌∙◌, ℕ, cond, List, [], ◌∷◌, ◌++◌, length, ap, sym, subst, Some, None}
use Rattle.std.specs.BTreeMap.{BTreeMap, Updates, UpdatesBy}
use Rattle.std.specs.Ordering.{is_eq}
use Rattle.syntax_trees.specs.declared.types.ValType.{ValType}
use Rattle.laid_types.specs.declared.layer.ValTypeLayer.{ValTypeLayer}
use Rattle.laid_types.specs.Layers.{AreThere, type_of, part_numbers, layer_labels}
use Rattle.link_values.specs.declared.keys.ValueKey.{ValueKey}
use Rattle.link_values.specs.Keys.{IsKeyOfLayer}
use Rattle.link_values.specs.Keyed.{LabelledTypes, AreKeyed, key_cmp, number_in}
use Rattle.link_values.specs.Labels.{list_number}
use Rattle.link_values.specs.Numbering.{IsNumberOf}
use Rattle.link_values.proofs.KeysOfLayers.{key_of_layer}
use Rattle.link_values.proofs.KeysTold.{one_key}
use Rattle.link_values.proofs.KeyedMore.{not_found, keyed_alike, keyed_more, taken_back}

module _ (lists : List (List (List ℕ) × ℕ)) (m : BTreeMap ValueKey ℕ) (types : List ValType) (seen : LabelledTypes) (x : ValTypeLayer) (labels : ℕ) (keyed : AreKeyed lists m types) (same : (let s : LabelledTypes = record { lists = lists; types = types } in s) ≡ seen)
    (there : AreThere seen.types (part_numbers x)) (listed : list_number seen.lists (layer_labels x) ≡ Some labels) (absent : IsNumberOf seen.types (type_of seen.types x) None) where
  there_now : AreThere types (part_numbers x)
  there_now = subst (λ (s : LabelledTypes). AreThere s.types (part_numbers x)) (sym same) there

  listed_now : list_number lists (layer_labels x) ≡ Some labels
  listed_now = subst (λ (s : LabelledTypes). list_number s.lists (layer_labels x) ≡ Some labels) (sym same) listed

  absent_now : IsNumberOf types (type_of types x) None
  absent_now = subst (λ (s : LabelledTypes). IsNumberOf s.types (type_of s.types x) None) (sym same) absent

  pub added_keyed : (n : BTreeMap ValueKey ℕ) (next : List ValType) (key : ValueKey) (number : ℕ) → IsKeyOfLayer labels key x → number ≡ length types → Updates key_cmp m n key (Some number) → next ≡ types ++ type_of types x ∷ [] → AreKeyed lists n next
  added_keyed n next key number k long updates is =
      rw is
      (keyed_more lists m n types key (type_of types x) keyed (key_of_layer lists types labels key x there_now listed_now k) absent_now
      (λ q. updates.0 q ∙ ap (λ (i : ℕ). cond (is_eq (key_cmp key q)) (Some i) (number_in m q)) long))

  pub taken_keyed : (n o : BTreeMap ValueKey ℕ) (next : List ValType) (key put : ValueKey) (number : ℕ) → IsKeyOfLayer labels key x → IsKeyOfLayer labels put x → Updates key_cmp m n put (Some number) → UpdatesBy key_cmp (key_cmp key) n o None → next ≡ types → AreKeyed lists o next
  taken_keyed n o next key put number k p updates taken is =
      let one = key_of_layer lists types labels key x there_now listed_now k in
      let other = key_of_layer lists types labels put x there_now listed_now p in
      let tied = one_key lists types key put (type_of types x) keyed.apart one other in
      let none = not_found lists m types put (type_of types x) keyed other absent_now in
      rw is (keyed_alike lists m o types (taken_back m n o key put (Some number) tied none updates.0 taken.0) keyed)
