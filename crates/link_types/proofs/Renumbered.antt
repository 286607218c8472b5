-- Types of values that are made again, with other numbers of resources, over a table that grows.
use Rattle.std.proofs.Common.{◌≡◌, ◌∙◌, ◌<◌, ℕ, List, [], ◌∷◌, map, length, refl, ap, ap₂, sym, subst, arith, Option, Some, None}
use Rattle.std.specs.Prelude.{unwrap_or}
use Rattle.std.specs.Option.{option_map}
use Rattle.std.specs.List.{slice_get, AllZip}
use Rattle.std.proofs.lemmas.Option.{slice_get_within}
use Rattle.syntax_trees.specs.declared.types.ValType.{ValType}
use Rattle.syntax_trees.specs.declared.types.ValType.TheVariants as leaves
use Rattle.syntax_trees.specs.declared.types.Field.{Field}
use Rattle.syntax_trees.specs.declared.types.Case.{Case}
use Rattle.syntax_trees.specs.declared.types.Param.{Param}
use Rattle.laid_types.specs.declared.layer.LabelledPart.{LabelledPart}
use Rattle.laid_types.specs.declared.layer.LabelledCase.{LabelledCase}
use Rattle.laid_types.specs.Layers.{IsThere, AreThere, tree_at, field_of, case_of}
use Rattle.link_values.specs.Resources.{renumbered, renumbered_param}
use Rattle.link_values.proofs.Renumbered.{renumbered_field, renumbered_case}
use Rattle.link_types.specs.declared.labels.LabelledType.{LabelledType}
use Rattle.link_types.specs.Labels.{IsParam}
use Rattle.link_types.specs.Layered.{MayBeValue}
use Rattle.link_types.specs.Table.{Table, Grows}
use Rattle.link_types.proofs.TypesGrow.{may_be_stays}

module _ (f : ℕ → ℕ) where
  -- A label with a number stands for this field, or this case, changed; a number for the type of a place, changed.
  abbrev pub IsNewField : List ValType → LabelledPart → Field → Type 0
  IsNewField values l x = (l.label.now ≡ x.label) × (slice_get values l.number ≡ Some (renumbered f x.val_type))

  abbrev pub IsNewCase : List ValType → LabelledCase → Case → Type 0
  IsNewCase values l c = (l.label.now ≡ c.label) × MayBeValue values l.payload (option_map (renumbered f) c.payload)

  abbrev pub IsNewPlace : List ValType → ℕ → ValType → Type 0
  IsNewPlace values number type = slice_get values number ≡ Some (renumbered f type)

  abbrev pub IsNewParam : List ValType → LabelledType → Param → Type 0
  IsNewParam values p q = IsParam values p (renumbered_param f q)

  -- They stand for them also once the table has grown.
  module _ (t u : Table) (g : Grows t u) where
    pub field_stays : (l : LabelledPart) (x : Field) → IsNewField t.values l x → IsNewField u.values l x
    field_stays l x h = (h.0, g.values l.number (renumbered f x.val_type) h.1)

    pub case_stays : (l : LabelledCase) (c : Case) → IsNewCase t.values l c → IsNewCase u.values l c
    case_stays l c h = (h.0, may_be_stays t u g l.payload (option_map (renumbered f) c.payload) h.1)

    pub place_stays : (n : ℕ) (type : ValType) → IsNewPlace t.values n type → IsNewPlace u.values n type
    place_stays n type h = g.values n (renumbered f type) h

    pub param_stays : (p : LabelledType) (q : Param) → IsNewParam t.values p q → IsNewParam u.values p q
    param_stays p q h = (h.0, g.values p.val_type (renumbered f q.val_type) h.1)

  -- The trees of numbers.
  module _ (values : List ValType) where
    pub tree_is : (n : ℕ) (type : ValType) → slice_get values n ≡ Some type → tree_at values n ≡ type
    tree_is n type h = ap (λ (o : Option ValType). unwrap_or o leaves.Bool) h

    pub held_is : (n : Option ℕ) (type : Option ValType) → MayBeValue values n type → option_map (tree_at values) n ≡ type
    held_is None None h = refl
    held_is (Some n) (Some type) h = ap Some (tree_is n type h)
    held_is n type h = absurd h

    pub fields_made : (parts : List LabelledPart) (fields : List Field) → AllZip (IsNewField values) parts fields → map (field_of values) parts ≡ map (renumbered_field f) fields
    fields_made [] [] h = refl
    fields_made [] (x ∷ fields) h = absurd h
    fields_made (l ∷ parts) [] h = absurd h
    fields_made (l ∷ parts) (x ∷ fields) h =
        ap₂ (λ y ys. y ∷ ys) (ap₂ (λ label type. (let z : Field = record { label = label; val_type = type } in z)) h.0.0 (tree_is l.number (renumbered f x.val_type) h.0.1)) (fields_made parts fields h.1)

    pub cases_made : (parts : List LabelledCase) (cases : List Case) → AllZip (IsNewCase values) parts cases → map (case_of values) parts ≡ map (renumbered_case f) cases
    cases_made [] [] h = refl
    cases_made [] (c ∷ cases) h = absurd h
    cases_made (l ∷ parts) [] h = absurd h
    cases_made (l ∷ parts) (c ∷ cases) h =
        ap₂ (λ y ys. y ∷ ys) (ap₂ (λ label payload. (let z : Case = record { label = label; payload = payload } in z)) h.0.0 (held_is l.payload (option_map (renumbered f) c.payload) h.0.1)) (cases_made parts cases h.1)

    pub places_made : (parts : List ℕ) (types : List ValType) → AllZip (IsNewPlace values) parts types → map (tree_at values) parts ≡ map (renumbered f) types
    places_made [] [] h = refl
    places_made [] (t ∷ types) h = absurd h
    places_made (n ∷ parts) [] h = absurd h
    places_made (n ∷ parts) (t ∷ types) h = ap₂ (λ y ys. y ∷ ys) (tree_is n (renumbered f t) h.0) (places_made parts types h.1)

    -- All parts are there.
    pub part_there : (n : ℕ) (type : ValType) → slice_get values n ≡ Some type → n < length values
    part_there n type h = slice_get_within values n type h

    pub payload_there : (n : Option ℕ) (type : Option ValType) → MayBeValue values n type → IsThere values n
    payload_there None type h = tt
    payload_there (Some n) (Some type) h = part_there n type h
    payload_there (Some n) None h = absurd h

    pub fields_there : (parts : List LabelledPart) (fields : List Field) → AllZip (IsNewField values) parts fields → AreThere values (map (λ (l : LabelledPart). Some l.number) parts)
    fields_there [] fields h = tt
    fields_there (l ∷ parts) [] h = absurd h
    fields_there (l ∷ parts) (x ∷ fields) h = (part_there l.number (renumbered f x.val_type) h.0.1, fields_there parts fields h.1)

    pub cases_there : (parts : List LabelledCase) (cases : List Case) → AllZip (IsNewCase values) parts cases → AreThere values (map (λ (l : LabelledCase). l.payload) parts)
    cases_there [] cases h = tt
    cases_there (l ∷ parts) [] h = absurd h
    cases_there (l ∷ parts) (c ∷ cases) h = (payload_there l.payload (option_map (renumbered f) c.payload) h.0.1, cases_there parts cases h.1)

    pub places_there : (parts : List ℕ) (types : List ValType) → AllZip (IsNewPlace values) parts types → AreThere values (map Some parts)
    places_there [] types h = tt
    places_there (n ∷ parts) [] h = absurd h
    places_there (n ∷ parts) (t ∷ types) h = (part_there n (renumbered f t) h.0, places_there parts types h.1)
