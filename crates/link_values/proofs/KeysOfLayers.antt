-- The key of a layer is one of the layer's type.
use Rattle.std.proofs.Common.{◌≡◌, ◌∙◌, ℕ, List, map, ap, sym, subst, Some}
use Rattle.std.specs.Option.{option_map}
use Rattle.syntax_trees.specs.declared.types.ValType.{ValType}
use Rattle.syntax_trees.specs.declared.types.ValType.TheViews.{outs-Bool, outs-S8, outs-U8, outs-S16, outs-U16, outs-S32, outs-U32, outs-S64, outs-U64, outs-Char, outs-String, outs-Record, outs-Variant, outs-List, outs-Tuple, outs-Flags, outs-Enum, outs-Option, outs-Result, outs-Own, outs-Borrow, outs-Stream, outs-Future}
use Rattle.laid_types.specs.declared.layer.ValTypeLayer.{ValTypeLayer}
use Rattle.laid_types.specs.declared.layer.ValTypeLayer.TheVariants as layer
use Rattle.laid_types.specs.Layers.{AreThere, trees_of, tree_at, field_of, case_of, type_of, part_numbers, layer_labels}
use Rattle.laid_types.proofs.OfLayers.{parts_of_layer, labels_of_layer}
use Rattle.link_values.specs.declared.keys.ValueKey.{ValueKey}
use Rattle.link_values.specs.Labels.{list_number}
use Rattle.link_values.specs.Keys.{form_case, form_of, resource_case, resource_of, layer_form, layer_resource, IsKeyOf, IsKeyOfLayer}

form_of_layer : (earlier : List ValType) (x : ValTypeLayer) → form_of (type_of earlier x) ≡ layer_form x
form_of_layer earlier layer.Bool = ap form_case outs-Bool
form_of_layer earlier layer.S8 = ap form_case outs-S8
form_of_layer earlier layer.U8 = ap form_case outs-U8
form_of_layer earlier layer.S16 = ap form_case outs-S16
form_of_layer earlier layer.U16 = ap form_case outs-U16
form_of_layer earlier layer.S32 = ap form_case outs-S32
form_of_layer earlier layer.U32 = ap form_case outs-U32
form_of_layer earlier layer.S64 = ap form_case outs-S64
form_of_layer earlier layer.U64 = ap form_case outs-U64
form_of_layer earlier layer.Char = ap form_case outs-Char
form_of_layer earlier layer.String = ap form_case outs-String
form_of_layer earlier (layer.Record fields) = ap form_case (outs-Record (map (field_of earlier) fields.now))
form_of_layer earlier (layer.Variant cases) = ap form_case (outs-Variant (map (case_of earlier) cases.now))
form_of_layer earlier (layer.List element) = ap form_case (outs-List (tree_at earlier element))
form_of_layer earlier (layer.Tuple parts) = ap form_case (outs-Tuple (map (tree_at earlier) parts.now))
form_of_layer earlier (layer.Flags labels) = ap form_case (outs-Flags (map (λ l. l.now) labels.now))
form_of_layer earlier (layer.Enum labels) = ap form_case (outs-Enum (map (λ l. l.now) labels.now))
form_of_layer earlier (layer.Option payload) = ap form_case (outs-Option (tree_at earlier payload))
form_of_layer earlier (layer.Result ok err) = ap form_case (outs-Result (option_map (tree_at earlier) ok) (option_map (tree_at earlier) err))
form_of_layer earlier (layer.Own resource) = ap form_case (outs-Own resource)
form_of_layer earlier (layer.Borrow resource) = ap form_case (outs-Borrow resource)
form_of_layer earlier (layer.Stream element) = ap form_case (outs-Stream (option_map (tree_at earlier) element))
form_of_layer earlier (layer.Future element) = ap form_case (outs-Future (option_map (tree_at earlier) element))

resource_of_layer : (earlier : List ValType) (x : ValTypeLayer) → resource_of (type_of earlier x) ≡ layer_resource x
resource_of_layer earlier layer.Bool = ap resource_case outs-Bool
resource_of_layer earlier layer.S8 = ap resource_case outs-S8
resource_of_layer earlier layer.U8 = ap resource_case outs-U8
resource_of_layer earlier layer.S16 = ap resource_case outs-S16
resource_of_layer earlier layer.U16 = ap resource_case outs-U16
resource_of_layer earlier layer.S32 = ap resource_case outs-S32
resource_of_layer earlier layer.U32 = ap resource_case outs-U32
resource_of_layer earlier layer.S64 = ap resource_case outs-S64
resource_of_layer earlier layer.U64 = ap resource_case outs-U64
resource_of_layer earlier layer.Char = ap resource_case outs-Char
resource_of_layer earlier layer.String = ap resource_case outs-String
resource_of_layer earlier (layer.Record fields) = ap resource_case (outs-Record (map (field_of earlier) fields.now))
resource_of_layer earlier (layer.Variant cases) = ap resource_case (outs-Variant (map (case_of earlier) cases.now))
resource_of_layer earlier (layer.List element) = ap resource_case (outs-List (tree_at earlier element))
resource_of_layer earlier (layer.Tuple parts) = ap resource_case (outs-Tuple (map (tree_at earlier) parts.now))
resource_of_layer earlier (layer.Flags labels) = ap resource_case (outs-Flags (map (λ l. l.now) labels.now))
resource_of_layer earlier (layer.Enum labels) = ap resource_case (outs-Enum (map (λ l. l.now) labels.now))
resource_of_layer earlier (layer.Option payload) = ap resource_case (outs-Option (tree_at earlier payload))
resource_of_layer earlier (layer.Result ok err) = ap resource_case (outs-Result (option_map (tree_at earlier) ok) (option_map (tree_at earlier) err))
resource_of_layer earlier (layer.Own resource) = ap resource_case (outs-Own resource)
resource_of_layer earlier (layer.Borrow resource) = ap resource_case (outs-Borrow resource)
resource_of_layer earlier (layer.Stream element) = ap resource_case (outs-Stream (option_map (tree_at earlier) element))
resource_of_layer earlier (layer.Future element) = ap resource_case (outs-Future (option_map (tree_at earlier) element))

pub key_of_layer : (lists : List (List (List ℕ) × ℕ)) (types : List ValType) (labels : ℕ) (key : ValueKey) (x : ValTypeLayer) → AreThere types (part_numbers x) → list_number lists (layer_labels x) ≡ Some labels → IsKeyOfLayer labels key x → IsKeyOf lists types key (type_of types x)
key_of_layer lists types labels key x there listed k = record {
  form_is = k.form_is ∙ sym (form_of_layer types x);
  resource_is = k.resource_is ∙ sym (resource_of_layer types x);
  labels_are = ap (list_number lists) (labels_of_layer types x) ∙ listed ∙ ap (λ (n : ℕ). Some n) (sym k.labels_is);
  there = subst (AreThere types) (sym k.parts_are) there;
  parts_are = ap (trees_of types) k.parts_are ∙ parts_of_layer types x there;
}
