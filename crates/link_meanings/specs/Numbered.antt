-- Fields, cases and places (Component Model, Explainer.md, "Type Definitions") with the numbers of their types.
use Rattle.std.specs.Prelude.{◌≡◌, ℕ, List, Some}
use Rattle.std.specs.List.{slice_get}
use Rattle.syntax_trees.specs.declared.types.ValType.{ValType}
use Rattle.syntax_trees.specs.declared.types.Field.{Field}
use Rattle.syntax_trees.specs.declared.types.Case.{Case}
use Rattle.laid_types.specs.declared.layer.LabelledPart.{LabelledPart}
use Rattle.laid_types.specs.declared.layer.LabelledCase.{LabelledCase}
use Rattle.link_types.specs.Layered.{MayBeValue}

-- A label with a number stands for this field, and for this case.
abbrev pub IsField : List ValType → LabelledPart → Field → Type 0
IsField values l f = (l.label.now ≡ f.label) × (slice_get values l.number ≡ Some f.val_type)

abbrev pub IsCase : List ValType → LabelledCase → Case → Type 0
IsCase values l c = (l.label.now ≡ c.label) × MayBeValue values l.payload c.payload

-- A number stands for the type of a place.
abbrev pub IsPlace : List ValType → ℕ → ValType → Type 0
IsPlace values number type = slice_get values number ≡ Some type
