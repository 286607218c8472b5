-- Function types (Component Model, Explainer.md, "Type Definitions") of labels with the numbers of value types.
use Rattle.std.specs.Prelude.{◌≡◌, ◌<◌, ℕ, List, length, Option, Some}
use Rattle.std.specs.List.{slice_get, AllZip}
use Rattle.syntax_trees.specs.declared.types.ValType.{ValType}
use Rattle.syntax_trees.specs.declared.types.Param.{Param}
use Rattle.syntax_trees.specs.declared.types.FuncType.{FuncType}
use Rattle.laid_types.specs.Layers.{IsThere}
use Rattle.link_types.specs.Layered.{MayBeValue}
use Rattle.link_types.specs.declared.labels.LabelledType.{LabelledType}

-- The numbers are those of value types.
abbrev pub HaveTypes : List ValType → List LabelledType → Type 0
HaveTypes values params = (n : ℕ) (p : LabelledType) → slice_get params n ≡ Some p → p.val_type < length values

abbrev pub AreValues : List ValType → List LabelledType → Option ℕ → Type 0
AreValues values params returned = HaveTypes values params × IsThere values returned

-- A label with a number stands for this parameter.
abbrev pub IsParam : List ValType → LabelledType → Param → Type 0
IsParam values p param = (p.label.now ≡ param.label) × (slice_get values p.val_type ≡ Some param.val_type)

-- These parameters and this result make the function type.
abbrev pub IsFuncOf : List ValType → List LabelledType → Option ℕ → FuncType → Type 0
IsFuncOf values params returned type = AllZip (IsParam values) params type.params × MayBeValue values returned type.result
