-- What it says of a type with parts that a script can write its values, and that one of them is written as nothing.
use Rattle.std.proofs.Common.{◌≡◌, ◌∙◌, ℕ, List, [], ◌∷◌, map, Bool, not, ◌&&◌, Option, Some, None, refl, sym, ap}
use Rattle.std.specs.Option.{option_map}
use Rattle.syntax_trees.specs.Names.{is_among}
use Rattle.syntax_trees.specs.declared.types.ValType.{ValType}
use Rattle.syntax_trees.specs.declared.types.Case.{Case}
use Rattle.syntax_trees.specs.declared.types.Field.{Field}
use Rattle.syntax_trees.specs.declared.types.ValType.TheViews as types
use Rattle.syntax_trees.specs.declared.types.ValType.TheVariants as leaves
use Rattle.syntax_trees.specs.declared.types.ValType.TheOpen as F
use Rattle.syntax_trees.specs.declared.types.ValType.TheFolds.{fold-Case, fold-Field, fold-roll-ValType}
use Rattle.syntax_trees.specs.declared.types.ValType.TheVariants.{rolls-Tuple, rolls-Record, rolls-Variant, rolls-Result, rolls-List, rolls-Option, rolls-Flags, rolls-Enum}
use Rattle.syntax_trees.specs.Ends.{some_true}
use Rattle.syntax_trees.proofs.Folds.{held, fold_case, fold_field, fold_result}
use Rattle.syntax_trees.proofs.Parts.{map_alike}
use Rattle.syntax_trees.specs.ValueText.{Labelled}
use Rattle.value_reader.specs.Writable.{all_true, true_if_some, is_label, are_labels, Told, told, told_step, told_case, told_field, payload_writable, is_silent, is_writable, may_be_silent}
use Rattle.value_reader.specs.Written.{case_labels}

abbrev OfCase : Type 0
OfCase = Labelled Told

parts_writable : (parts : List ValType) → map (λ (p : Told). p.writable) (map told parts) ≡ map is_writable parts
parts_writable [] = refl
parts_writable (t ∷ parts) = ap (λ (l : List Bool). is_writable t ∷ l) (parts_writable parts)

pub writable_of_tuple : (parts : List ValType) → is_writable (types.Tuple parts) ≡ all_true (map is_writable parts)
writable_of_tuple parts = ap (λ (k : Told). k.writable) (ap told (sym (rolls-Tuple parts)) ∙ fold-roll-ValType Told OfCase Bool told_step told_case told_field (F.Tuple parts)) ∙ ap all_true (parts_writable parts)

pub writable_of_list : (element : ValType) → is_writable (types.List element) ≡ (is_writable element && not (may_be_silent element))
writable_of_list element = ap (λ (k : Told). k.writable) (ap told (sym (rolls-List element)) ∙ fold-roll-ValType Told OfCase Bool told_step told_case told_field (F.List element))

pub writable_of_option : (part : ValType) → is_writable (types.Option part) ≡ is_writable part
writable_of_option part = ap (λ (k : Told). k.writable) (ap told (sym (rolls-Option part)) ∙ fold-roll-ValType Told OfCase Bool told_step told_case told_field (F.Option part))

pub writable_of_flags : (labels : List (List ℕ)) → is_writable (leaves.Flags labels) ≡ (are_labels labels && not (is_among [] labels))
writable_of_flags labels = ap (λ (k : Told). k.writable) (ap told (sym (rolls-Flags labels)) ∙ fold-roll-ValType Told OfCase Bool told_step told_case told_field (F.Flags labels))

pub writable_of_enum : (labels : List (List ℕ)) → is_writable (leaves.Enum labels) ≡ are_labels labels
writable_of_enum labels = ap (λ (k : Told). k.writable) (ap told (sym (rolls-Enum labels)) ∙ fold-roll-ValType Told OfCase Bool told_step told_case told_field (F.Enum labels))

pub silent_of_enum : (labels : List (List ℕ)) → may_be_silent (leaves.Enum labels) ≡ is_among [] labels
silent_of_enum labels = ap (λ (k : Told). k.silent) (ap told (sym (rolls-Enum labels)) ∙ fold-roll-ValType Told OfCase Bool told_step told_case told_field (F.Enum labels))

-- Cases and fields.
held_writable : (p : Option ValType) → payload_writable (held told p) ≡ true_if_some (option_map is_writable p)
held_writable (Some p) = refl
held_writable None = refl

held_silent : (label : List ℕ) (p : Option ValType) → is_silent label (held told p) ≡ is_silent label p
held_silent [] (Some p) = refl
held_silent [] None = refl
held_silent (b ∷ label) p = refl

abbrev pub rest_writable : Case → Bool
rest_writable c = true_if_some (option_map is_writable c.payload)

abbrev pub case_silent : Case → Bool
case_silent c = is_silent c.label c.payload

abbrev case_told : Case → OfCase
case_told c = record { label = c.label; rest = record { writable = rest_writable c; silent = case_silent c } }

of_field : (f : Field) → fold-Field Told OfCase Bool told_step told_case told_field f ≡ (is_label f.label && is_writable f.val_type)
of_field = fold_field Told OfCase Bool told_step told_case told_field

of_case : (c : Case) → fold-Case Told OfCase Bool told_step told_case told_field c ≡ case_told c
of_case c =
    fold_case Told OfCase Bool told_step told_case told_field c
    ∙ ap (λ (b : Bool). let l : OfCase = record { label = c.label; rest = record { writable = b; silent = is_silent c.label (held told c.payload) } } in l) (held_writable c.payload)
    ∙ ap (λ (b : Bool). let l : OfCase = record { label = c.label; rest = record { writable = rest_writable c; silent = b } } in l) (held_silent c.label c.payload)

pub writable_of_record : (fields : List Field) → is_writable (types.Record fields) ≡ all_true (map (λ (f : Field). is_label f.label && is_writable f.val_type) fields)
writable_of_record fields =
    ap (λ (k : Told). k.writable) (ap told (sym (rolls-Record fields)) ∙ fold-roll-ValType Told OfCase Bool told_step told_case told_field (F.Record fields)) ∙ ap all_true (map_alike _ _ of_field fields)

labels_of : (cases : List Case) → map (λ (c : OfCase). c.label) (map case_told cases) ≡ case_labels cases
labels_of [] = refl
labels_of (c ∷ cases) = ap (λ (l : List (List ℕ)). c.label ∷ l) (labels_of cases)

rests_of : (cases : List Case) → map (λ (c : OfCase). c.rest.writable) (map case_told cases) ≡ map rest_writable cases
rests_of [] = refl
rests_of (c ∷ cases) = ap (λ (l : List Bool). rest_writable c ∷ l) (rests_of cases)

silents_of : (cases : List Case) → map (λ (c : OfCase). c.rest.silent) (map case_told cases) ≡ map case_silent cases
silents_of [] = refl
silents_of (c ∷ cases) = ap (λ (l : List Bool). case_silent c ∷ l) (silents_of cases)

pub writable_of_variant : (cases : List Case) → is_writable (types.Variant cases) ≡ (are_labels (case_labels cases) && all_true (map rest_writable cases))
writable_of_variant cases =
    ap (λ (k : Told). k.writable) (ap told (sym (rolls-Variant cases)) ∙ fold-roll-ValType Told OfCase Bool told_step told_case told_field (F.Variant cases))
    ∙ ap (λ (cs : List OfCase). are_labels (map (λ (c : OfCase). c.label) cs) && all_true (map (λ (c : OfCase). c.rest.writable) cs)) (map_alike _ _ of_case cases)
    ∙ ap (λ (l : List (List ℕ)). are_labels l && all_true (map (λ (c : OfCase). c.rest.writable) (map case_told cases))) (labels_of cases)
    ∙ ap (λ (l : List Bool). are_labels (case_labels cases) && all_true l) (rests_of cases)

pub silent_of_variant : (cases : List Case) → may_be_silent (types.Variant cases) ≡ some_true (map case_silent cases)
silent_of_variant cases =
    ap (λ (k : Told). k.silent) (ap told (sym (rolls-Variant cases)) ∙ fold-roll-ValType Told OfCase Bool told_step told_case told_field (F.Variant cases))
    ∙ ap (λ (cs : List OfCase). some_true (map (λ (c : OfCase). c.rest.silent) cs)) (map_alike _ _ of_case cases)
    ∙ ap some_true (silents_of cases)

pub writable_of_result : (ok err : Option ValType) → is_writable (types.Result ok err) ≡ (true_if_some (option_map is_writable ok) && true_if_some (option_map is_writable err))
writable_of_result ok err =
    ap is_writable (sym (rolls-Result ok err)) ∙ ap (λ (k : Told). k.writable) (fold_result Told OfCase Bool told_step told_case told_field ok err)
    ∙ ap (λ (b : Bool). b && payload_writable (held told err)) (held_writable ok)
    ∙ ap (λ (b : Bool). true_if_some (option_map is_writable ok) && b) (held_writable err)
