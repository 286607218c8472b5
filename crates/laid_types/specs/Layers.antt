-- Types by their outer layers (Component Model, Explainer.md, "Type Definitions"), which name their parts by their numbers among
-- earlier types.
use Rattle.std.specs.Prelude.{ℕ, ◌<◌, List, [], ◌∷◌, map, length, unwrap_or, Option, Some, None}
use Rattle.std.specs.List.{slice_get}
use Rattle.std.specs.Option.{option_map}
use Rattle.syntax_trees.specs.declared.types.ValType.{ValType}
use Rattle.syntax_trees.specs.declared.types.ValType.TheVariants as leaves
use Rattle.syntax_trees.specs.declared.types.ValType.TheViews as types
use Rattle.syntax_trees.specs.declared.types.Field.{Field}
use Rattle.syntax_trees.specs.declared.types.Case.{Case}
use Rattle.laid_types.specs.declared.layer.ValTypeLayer.{ValTypeLayer}
use Rattle.laid_types.specs.declared.layer.ValTypeLayer.TheVariants as layer
use Rattle.laid_types.specs.declared.layer.LabelledPart.{LabelledPart}
use Rattle.laid_types.specs.declared.layer.LabelledCase.{LabelledCase}

-- A number, if there is one, is that of an earlier type.
abbrev pub IsThere : List ValType → Option ℕ → Type 0
IsThere earlier None = Unit {0}
IsThere earlier (Some number) = number < length earlier

abbrev pub AreThere : List ValType → List (Option ℕ) → Type 0
AreThere earlier [] = Unit {0}
AreThere earlier (number ∷ numbers) = IsThere earlier number × AreThere earlier numbers

-- the type of a number, where it is there
abbrev pub tree_of : List ValType → Option ℕ → Option ValType
tree_of earlier None = None
tree_of earlier (Some number) = slice_get earlier number

abbrev pub trees_of : List ValType → List (Option ℕ) → List (Option ValType)
trees_of earlier numbers = map (tree_of earlier) numbers

-- the type of a number that is there
abbrev pub tree_at : List ValType → ℕ → ValType
tree_at earlier number = unwrap_or (slice_get earlier number) leaves.Bool

abbrev pub field_of : List ValType → LabelledPart → Field
field_of earlier f = record { label = f.label.now; val_type = tree_at earlier f.number }

abbrev pub case_of : List ValType → LabelledCase → Case
case_of earlier c = record { label = c.label.now; payload = option_map (tree_at earlier) c.payload }

-- the type of a layer
abbrev pub type_of : List ValType → ValTypeLayer → ValType
type_of earlier layer.Bool = leaves.Bool
type_of earlier layer.S8 = leaves.S8
type_of earlier layer.U8 = leaves.U8
type_of earlier layer.S16 = leaves.S16
type_of earlier layer.U16 = leaves.U16
type_of earlier layer.S32 = leaves.S32
type_of earlier layer.U32 = leaves.U32
type_of earlier layer.S64 = leaves.S64
type_of earlier layer.U64 = leaves.U64
type_of earlier layer.Char = leaves.Char
type_of earlier layer.String = leaves.String
type_of earlier (layer.Record fields) = types.Record (map (field_of earlier) fields.now)
type_of earlier (layer.Variant cases) = types.Variant (map (case_of earlier) cases.now)
type_of earlier (layer.List element) = types.List (tree_at earlier element)
type_of earlier (layer.Tuple parts) = types.Tuple (map (tree_at earlier) parts.now)
type_of earlier (layer.Flags labels) = leaves.Flags (map (λ l. l.now) labels.now)
type_of earlier (layer.Enum labels) = leaves.Enum (map (λ l. l.now) labels.now)
type_of earlier (layer.Option payload) = types.Option (tree_at earlier payload)
type_of earlier (layer.Result ok err) = types.Result (option_map (tree_at earlier) ok) (option_map (tree_at earlier) err)
type_of earlier (layer.Own resource) = leaves.Own resource
type_of earlier (layer.Borrow resource) = leaves.Borrow resource
type_of earlier (layer.Stream element) = types.Stream (option_map (tree_at earlier) element)
type_of earlier (layer.Future element) = types.Future (option_map (tree_at earlier) element)

-- the numbers of a layer's parts, by their places
abbrev pub part_numbers : ValTypeLayer → List (Option ℕ)
part_numbers (layer.Record fields) = map (λ (f : LabelledPart). Some f.number) fields.now
part_numbers (layer.Variant cases) = map (λ (c : LabelledCase). c.payload) cases.now
part_numbers (layer.List element) = Some element ∷ []
part_numbers (layer.Tuple parts) = map Some parts.now
part_numbers (layer.Option payload) = None ∷ Some payload ∷ []
part_numbers (layer.Result ok err) = ok ∷ err ∷ []
part_numbers (layer.Stream element) = element ∷ []
part_numbers (layer.Future element) = element ∷ []
part_numbers _ = []

-- the labels of a layer, in order
abbrev pub layer_labels : ValTypeLayer → List (List ℕ)
layer_labels (layer.Record fields) = map (λ (f : LabelledPart). f.label.now) fields.now
layer_labels (layer.Variant cases) = map (λ (c : LabelledCase). c.label.now) cases.now
layer_labels (layer.Flags labels) = map (λ l. l.now) labels.now
layer_labels (layer.Enum labels) = map (λ l. l.now) labels.now
layer_labels _ = []
