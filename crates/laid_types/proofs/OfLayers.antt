-- Types of layers: their parts are the types of the layer's numbers, and their labels those of the layer.
use Rattle.std.proofs.Common.{◌≡◌, ◌∙◌, ℕ, zero, suc, ◌<◌, List, [], ◌∷◌, length, map, ap, sym, refl, arith, Option, Some, None}
use Rattle.std.specs.List.{slice_get}
use Rattle.std.specs.Option.{option_map}
use Rattle.syntax_trees.specs.declared.types.ValType.{ValType}
use Rattle.syntax_trees.specs.declared.types.ValType.TheViews.{outs-Bool, outs-S8, outs-U8, outs-S16, outs-U16, outs-S32, outs-U32, outs-S64, outs-U64, outs-Char, outs-String, outs-Record, outs-Variant, outs-List, outs-Tuple, outs-Flags, outs-Enum, outs-Option, outs-Result, outs-Own, outs-Borrow, outs-Stream, outs-Future}
use Rattle.syntax_trees.specs.declared.types.Field.{Field}
use Rattle.syntax_trees.specs.declared.types.Case.{Case}
use Rattle.laid_types.specs.Parts.{parts_case, parts_of, labels_case, labels_of}
use Rattle.laid_types.specs.declared.layer.ValTypeLayer.{ValTypeLayer}
use Rattle.laid_types.specs.declared.layer.ValTypeLayer.TheVariants as layer
use Rattle.laid_types.specs.declared.layer.LabelledPart.{LabelledPart}
use Rattle.laid_types.specs.declared.layer.LabelledCase.{LabelledCase}
use Rattle.laid_types.specs.Layers.{IsThere, AreThere, tree_of, trees_of, tree_at, field_of, case_of, type_of, part_numbers, layer_labels}
use Rattle.laid_types.proofs.ByParts.{map_twice}

-- The type at a number that is there.
pub there_tree : (earlier : List ValType) (number : ℕ) → number < length earlier → slice_get earlier number ≡ Some (tree_at earlier number)
there_tree [] number h = absurd (omega arith)
there_tree (t ∷ earlier) zero h = refl
there_tree (t ∷ earlier) (suc number) h = there_tree earlier number (omega arith)

there_part : (earlier : List ValType) (number : Option ℕ) → IsThere earlier number → tree_of earlier number ≡ option_map (tree_at earlier) number
there_part earlier (Some number) h = there_tree earlier number h
there_part earlier None h = refl

two_alike : {A : Type 0} (x y : A) (xs ys : List A) → x ≡ y → xs ≡ ys → x ∷ xs ≡ y ∷ ys
two_alike x y xs ys e f = cc

fields_parts : (earlier : List ValType) (fields : List LabelledPart) → AreThere earlier (map (λ (f : LabelledPart). Some f.number) fields)
    → trees_of earlier (map (λ (f : LabelledPart). Some f.number) fields) ≡ map (λ (f : Field). Some f.val_type) (map (field_of earlier) fields)
fields_parts earlier [] h = refl
fields_parts earlier (f ∷ fields) h = two_alike _ _ _ _ (there_tree earlier f.number h.0) (fields_parts earlier fields h.1)

cases_parts : (earlier : List ValType) (cases : List LabelledCase) → AreThere earlier (map (λ (c : LabelledCase). c.payload) cases)
    → trees_of earlier (map (λ (c : LabelledCase). c.payload) cases) ≡ map (λ (c : Case). c.payload) (map (case_of earlier) cases)
cases_parts earlier [] h = refl
cases_parts earlier (c ∷ cases) h = two_alike _ _ _ _ (there_part earlier c.payload h.0) (cases_parts earlier cases h.1)

places_parts : (earlier : List ValType) (numbers : List ℕ) → AreThere earlier (map Some numbers)
    → trees_of earlier (map Some numbers) ≡ map Some (map (tree_at earlier) numbers)
places_parts earlier [] h = refl
places_parts earlier (n ∷ numbers) h = two_alike _ _ _ _ (there_tree earlier n h.0) (places_parts earlier numbers h.1)

one_part : (earlier : List ValType) (part : Option ℕ) → IsThere earlier part → trees_of earlier (part ∷ []) ≡ option_map (tree_at earlier) part ∷ []
one_part earlier part h = ap (λ (t : Option ValType). t ∷ []) (there_part earlier part h)

-- The parts of the type of a layer.
pub parts_of_layer : (earlier : List ValType) (x : ValTypeLayer) → AreThere earlier (part_numbers x) → trees_of earlier (part_numbers x) ≡ parts_of (type_of earlier x)
parts_of_layer earlier layer.Bool h = sym (ap parts_case outs-Bool)
parts_of_layer earlier layer.S8 h = sym (ap parts_case outs-S8)
parts_of_layer earlier layer.U8 h = sym (ap parts_case outs-U8)
parts_of_layer earlier layer.S16 h = sym (ap parts_case outs-S16)
parts_of_layer earlier layer.U16 h = sym (ap parts_case outs-U16)
parts_of_layer earlier layer.S32 h = sym (ap parts_case outs-S32)
parts_of_layer earlier layer.U32 h = sym (ap parts_case outs-U32)
parts_of_layer earlier layer.S64 h = sym (ap parts_case outs-S64)
parts_of_layer earlier layer.U64 h = sym (ap parts_case outs-U64)
parts_of_layer earlier layer.Char h = sym (ap parts_case outs-Char)
parts_of_layer earlier layer.String h = sym (ap parts_case outs-String)
parts_of_layer earlier (layer.Record fields) h =
    fields_parts earlier fields.now h ∙ sym (ap parts_case (outs-Record (map (field_of earlier) fields.now)))
parts_of_layer earlier (layer.Variant cases) h =
    cases_parts earlier cases.now h ∙ sym (ap parts_case (outs-Variant (map (case_of earlier) cases.now)))
parts_of_layer earlier (layer.List element) h =
    one_part earlier (Some element) h.0 ∙ sym (ap parts_case (outs-List (tree_at earlier element)))
parts_of_layer earlier (layer.Tuple parts) h =
    places_parts earlier parts.now h ∙ sym (ap parts_case (outs-Tuple (map (tree_at earlier) parts.now)))
parts_of_layer earlier (layer.Flags labels) h = sym (ap parts_case (outs-Flags (map (λ l. l.now) labels.now)))
parts_of_layer earlier (layer.Enum labels) h = sym (ap parts_case (outs-Enum (map (λ l. l.now) labels.now)))
parts_of_layer earlier (layer.Option payload) h =
    ap (λ (ts : List (Option ValType)). None ∷ ts) (one_part earlier (Some payload) h.1.0) ∙ sym (ap parts_case (outs-Option (tree_at earlier payload)))
parts_of_layer earlier (layer.Result ok err) h =
    two_alike _ _ _ _ (there_part earlier ok h.0) (one_part earlier err h.1.0)
    ∙ sym (ap parts_case (outs-Result (option_map (tree_at earlier) ok) (option_map (tree_at earlier) err)))
parts_of_layer earlier (layer.Own resource) h = sym (ap parts_case (outs-Own resource))
parts_of_layer earlier (layer.Borrow resource) h = sym (ap parts_case (outs-Borrow resource))
parts_of_layer earlier (layer.Stream element) h =
    one_part earlier element h.0 ∙ sym (ap parts_case (outs-Stream (option_map (tree_at earlier) element)))
parts_of_layer earlier (layer.Future element) h =
    one_part earlier element h.0 ∙ sym (ap parts_case (outs-Future (option_map (tree_at earlier) element)))

-- Its labels.
pub labels_of_layer : (earlier : List ValType) (x : ValTypeLayer) → labels_of (type_of earlier x) ≡ layer_labels x
labels_of_layer earlier layer.Bool = ap labels_case outs-Bool
labels_of_layer earlier layer.S8 = ap labels_case outs-S8
labels_of_layer earlier layer.U8 = ap labels_case outs-U8
labels_of_layer earlier layer.S16 = ap labels_case outs-S16
labels_of_layer earlier layer.U16 = ap labels_case outs-U16
labels_of_layer earlier layer.S32 = ap labels_case outs-S32
labels_of_layer earlier layer.U32 = ap labels_case outs-U32
labels_of_layer earlier layer.S64 = ap labels_case outs-S64
labels_of_layer earlier layer.U64 = ap labels_case outs-U64
labels_of_layer earlier layer.Char = ap labels_case outs-Char
labels_of_layer earlier layer.String = ap labels_case outs-String
labels_of_layer earlier (layer.Record fields) =
    ap labels_case (outs-Record (map (field_of earlier) fields.now)) ∙ map_twice (field_of earlier) (λ (f : Field). f.label) fields.now
labels_of_layer earlier (layer.Variant cases) =
    ap labels_case (outs-Variant (map (case_of earlier) cases.now)) ∙ map_twice (case_of earlier) (λ (c : Case). c.label) cases.now
labels_of_layer earlier (layer.List element) = ap labels_case (outs-List (tree_at earlier element))
labels_of_layer earlier (layer.Tuple parts) = ap labels_case (outs-Tuple (map (tree_at earlier) parts.now))
labels_of_layer earlier (layer.Flags labels) = ap labels_case (outs-Flags (map (λ l. l.now) labels.now))
labels_of_layer earlier (layer.Enum labels) = ap labels_case (outs-Enum (map (λ l. l.now) labels.now))
labels_of_layer earlier (layer.Option payload) = ap labels_case (outs-Option (tree_at earlier payload))
labels_of_layer earlier (layer.Result ok err) = ap labels_case (outs-Result (option_map (tree_at earlier) ok) (option_map (tree_at earlier) err))
labels_of_layer earlier (layer.Own resource) = ap labels_case (outs-Own resource)
labels_of_layer earlier (layer.Borrow resource) = ap labels_case (outs-Borrow resource)
labels_of_layer earlier (layer.Stream element) = ap labels_case (outs-Stream (option_map (tree_at earlier) element))
labels_of_layer earlier (layer.Future element) = ap labels_case (outs-Future (option_map (tree_at earlier) element))
