-- What types are made of (Component Model, Explainer.md, "Type Definitions"): their parts by places, how many cases they have, and
-- their labels; and where a payload stands (CanonicalABI.md, "Storing").
use Rattle.std.specs.Prelude.{ℕ, List, [], ◌∷◌, map, length, Option, Some, None}
use Rattle.std.specs.List.{slice_get}
use Rattle.std.specs.Option.{option_and_then}
use Rattle.syntax_trees.specs.declared.types.ValType.{ValType, out-ValType}
use Rattle.syntax_trees.specs.declared.types.ValType.TheOpen.{ValType-F}
use Rattle.syntax_trees.specs.declared.types.Field.{Field}
use Rattle.syntax_trees.specs.declared.types.Case.{Case}
use Rattle.laid_types.specs.Layout.{Laid, aligned, laid_payload, tag_size, there, top_align}

-- The parts of a layer: the fields of a record, the places of a tuple, the payloads of a variant's cases, the element of a list, a
-- stream or a future, none and the value of an option, what a success and a failure of a result hold.
abbrev pub parts_case : ValType-F ValType Case Field → List (Option ValType)
parts_case (ValType-F.Record fields) = map (λ (f : Field). Some f.val_type) fields
parts_case (ValType-F.Variant cases) = map (λ (c : Case). c.payload) cases
parts_case (ValType-F.List element) = Some element ∷ []
parts_case (ValType-F.Tuple parts) = map Some parts
parts_case (ValType-F.Option payload) = None ∷ Some payload ∷ []
parts_case (ValType-F.Result ok err) = ok ∷ err ∷ []
parts_case (ValType-F.Stream element) = element ∷ []
parts_case (ValType-F.Future element) = element ∷ []
parts_case _ = []

abbrev pub parts_of : ValType → List (Option ValType)
parts_of type = parts_case (out-ValType type)

-- the part at a place, none where no type stands there
abbrev pub part_at : ValType → ℕ → Option ValType
part_at type at = option_and_then (λ part. part) (slice_get (parts_of type) at)

-- how many cases there are to tell apart
abbrev pub count_case : ValType-F ValType Case Field → ℕ
count_case (ValType-F.Variant cases) = length cases
count_case (ValType-F.Enum labels) = length labels
count_case (ValType-F.Option payload) = 2
count_case (ValType-F.Result ok err) = 2
count_case _ = 0

abbrev pub case_count : ValType → ℕ
case_count type = count_case (out-ValType type)

-- the labels of fields, of cases and of flags, in order
abbrev pub labels_case : ValType-F ValType Case Field → List (List ℕ)
labels_case (ValType-F.Record fields) = map (λ (f : Field). f.label) fields
labels_case (ValType-F.Variant cases) = map (λ (c : Case). c.label) cases
labels_case (ValType-F.Flags labels) = labels
labels_case (ValType-F.Enum labels) = labels
labels_case _ = []

abbrev pub labels_of : ValType → List (List ℕ)
labels_of type = labels_case (out-ValType type)

-- the layouts of the parts that are there
abbrev pub layouts : List (Option ValType) → List Laid
layouts parts = there (map laid_payload parts)

-- where a payload stands behind the number of its case
abbrev pub payload_place : ValType → ℕ
payload_place type = aligned (tag_size (case_count type)) (top_align (layouts (parts_of type)))
