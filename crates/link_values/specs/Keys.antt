-- What tells types of values apart (Component Model, Explainer.md, "Type Definitions"): the form of a type, the number of its resource's
-- type, the list of its labels, by its number, and its parts, by their numbers among types.
use Rattle.std.specs.Prelude.{◌≡◌, ℕ, List, Some}
use Rattle.syntax_trees.specs.declared.types.ValType.{ValType, out-ValType}
use Rattle.syntax_trees.specs.declared.types.ValType.TheOpen.{ValType-F}
use Rattle.laid_types.specs.declared.layer.ValTypeLayer.{ValTypeLayer}
use Rattle.laid_types.specs.declared.layer.ValTypeLayer.TheVariants as layer
use Rattle.laid_types.specs.Parts.{parts_of, labels_of}
use Rattle.laid_types.specs.Layers.{AreThere, trees_of, part_numbers}
use Rattle.link_values.specs.Labels.{list_number}
use Rattle.link_values.specs.declared.keys.Form.{Form}
use Rattle.link_values.specs.declared.keys.Form.TheVariants as form
use Rattle.link_values.specs.declared.keys.ValueKey.{ValueKey}

-- the form of a type
abbrev pub form_case : {A B C : Type 0} → ValType-F A B C → Form
form_case ValType-F.Bool = form.Bool
form_case ValType-F.S8 = form.S8
form_case ValType-F.U8 = form.U8
form_case ValType-F.S16 = form.S16
form_case ValType-F.U16 = form.U16
form_case ValType-F.S32 = form.S32
form_case ValType-F.U32 = form.U32
form_case ValType-F.S64 = form.S64
form_case ValType-F.U64 = form.U64
form_case ValType-F.Char = form.Char
form_case ValType-F.String = form.String
form_case (ValType-F.Record fields) = form.Record
form_case (ValType-F.Variant cases) = form.Variant
form_case (ValType-F.List element) = form.List
form_case (ValType-F.Tuple parts) = form.Tuple
form_case (ValType-F.Flags labels) = form.Flags
form_case (ValType-F.Enum labels) = form.Enum
form_case (ValType-F.Option payload) = form.Option
form_case (ValType-F.Result ok err) = form.Result
form_case (ValType-F.Own resource) = form.Own
form_case (ValType-F.Borrow resource) = form.Borrow
form_case (ValType-F.Stream element) = form.Stream
form_case (ValType-F.Future element) = form.Future

abbrev pub form_of : ValType → Form
form_of type = form_case (out-ValType type)

-- the number of the type of a handle's resource, 0 where the type is of no handle
abbrev pub resource_case : {A B C : Type 0} → ValType-F A B C → ℕ
resource_case (ValType-F.Own resource) = resource
resource_case (ValType-F.Borrow resource) = resource
resource_case _ = 0

abbrev pub resource_of : ValType → ℕ
resource_of type = resource_case (out-ValType type)

-- the same of a layer
abbrev pub layer_form : ValTypeLayer → Form
layer_form layer.Bool = form.Bool
layer_form layer.S8 = form.S8
layer_form layer.U8 = form.U8
layer_form layer.S16 = form.S16
layer_form layer.U16 = form.U16
layer_form layer.S32 = form.S32
layer_form layer.U32 = form.U32
layer_form layer.S64 = form.S64
layer_form layer.U64 = form.U64
layer_form layer.Char = form.Char
layer_form layer.String = form.String
layer_form (layer.Record fields) = form.Record
layer_form (layer.Variant cases) = form.Variant
layer_form (layer.List element) = form.List
layer_form (layer.Tuple parts) = form.Tuple
layer_form (layer.Flags labels) = form.Flags
layer_form (layer.Enum labels) = form.Enum
layer_form (layer.Option payload) = form.Option
layer_form (layer.Result ok err) = form.Result
layer_form (layer.Own resource) = form.Own
layer_form (layer.Borrow resource) = form.Borrow
layer_form (layer.Stream element) = form.Stream
layer_form (layer.Future element) = form.Future

abbrev pub layer_resource : ValTypeLayer → ℕ
layer_resource (layer.Own resource) = resource
layer_resource (layer.Borrow resource) = resource
layer_resource _ = 0

-- A key is of a type, whose labels are among these lists, and whose parts are among these types.
pub record IsKeyOf (lists : List (List (List ℕ) × ℕ)) (types : List ValType) (key : ValueKey) (type : ValType) : Type 0 where
  pub form_is : key.form ≡ form_of type
  pub resource_is : key.resource ≡ resource_of type
  pub labels_are : list_number lists (labels_of type) ≡ Some key.labels
  pub there : AreThere types key.parts.items
  pub parts_are : trees_of types key.parts.items ≡ parts_of type

-- A key is of a layer, whose list of labels has this number.
pub record IsKeyOfLayer (labels : ℕ) (key : ValueKey) (x : ValTypeLayer) : Type 0 where
  pub form_is : key.form ≡ layer_form x
  pub resource_is : key.resource ≡ layer_resource x
  pub labels_is : key.labels ≡ labels
  pub parts_are : key.parts.items ≡ part_numbers x
