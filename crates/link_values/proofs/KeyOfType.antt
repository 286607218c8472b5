-- The key of a layer is one of its type, over the lists of labels and the types as they are then.
use Rattle.std.proofs.Common.{◌≡◌, ◌∙◌, ◌∷◌, ◌++◌, [], ℕ, List, length, ap, sym, subst, Option, Some}
use Rattle.std.specs.List.{slice_get}
use Rattle.syntax_trees.specs.declared.types.ValType.{ValType}
use Rattle.laid_types.specs.declared.layer.ValTypeLayer.{ValTypeLayer}
use Rattle.laid_types.specs.Layers.{AreThere, type_of, part_numbers, layer_labels}
use Rattle.link_values.specs.declared.keys.ValueKey.{ValueKey}
use Rattle.link_values.specs.Keys.{IsKeyOf, IsKeyOfLayer}
use Rattle.link_values.specs.Keyed.{LabelledTypes}
use Rattle.link_values.specs.Labels.{list_number}
use Rattle.link_values.specs.Numbering.{IsAdded}
use Rattle.link_values.proofs.KeysOfLayers.{key_of_layer}
use Rattle.link_values.proofs.Numbered.{added_last}

module _ (seen : List ValType) (now : LabelledTypes) (x : ValTypeLayer) (same : now.types ≡ seen) where
  pub key_now : (labels : ℕ) (texts : List (List ℕ)) (key : ValueKey) → AreThere seen (part_numbers x) → texts ≡ layer_labels x → list_number now.lists texts ≡ Some labels → IsKeyOfLayer labels key x → IsKeyOf now.lists now.types key (type_of now.types x)
  key_now labels texts key there told listed k =
      key_of_layer now.lists now.types labels key x (subst (λ (ts : List ValType). AreThere ts (part_numbers x)) (sym same) there) (ap (list_number now.lists) (sym told) ∙ listed) k

  pub found_now : (number : ℕ) → slice_get now.types number ≡ Some (type_of now.types x) → slice_get now.types number ≡ Some (type_of seen x)
  found_now number h = h ∙ ap (λ (ts : List ValType). Some (type_of ts x)) same

  pub added_now : (number : ℕ) (next : List ValType) → number ≡ length now.types → next ≡ now.types ++ type_of now.types x ∷ [] → IsAdded seen (type_of seen x) number next
  added_now number next long is =
      subst (λ (ts : List ValType). IsAdded ts (type_of ts x) number next) same
      (subst (λ (ts : List ValType). IsAdded now.types (type_of now.types x) number ts) (sym is) (added_last now.types (type_of now.types x) number long))
