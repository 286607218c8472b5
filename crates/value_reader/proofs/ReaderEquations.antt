-- What the readers are for the types that hold others.
use Rattle.std.proofs.Common.{ℕ, ◌≡◌, ◌∙◌, List, [], ◌∷◌, map, ap, sym, refl, Option, Some, None}
use Rattle.syntax_trees.specs.declared.types.ValType.{ValType}
use Rattle.syntax_trees.specs.declared.types.Case.{Case}
use Rattle.syntax_trees.specs.declared.types.Field.{Field}
use Rattle.syntax_trees.specs.declared.types.ValType.TheViews as types
use Rattle.syntax_trees.specs.declared.types.ValType.TheOpen as F
use Rattle.syntax_trees.specs.declared.types.ValType.TheFolds.{fold-Case, fold-Field, fold-roll-ValType}
use Rattle.syntax_trees.specs.declared.types.ValType.TheVariants.{rolls-Tuple, rolls-Record, rolls-Variant, rolls-Result, rolls-List, rolls-Option}
use Rattle.syntax_trees.proofs.Folds.{held, fold_case, fold_field, fold_result}
use Rattle.syntax_trees.proofs.Parts.{map_alike}
use Rattle.syntax_trees.specs.ValueText.{Labelled}
use Rattle.value_reader.specs.Values.{Reader, reader, reader_step, reader_case, reader_field, payload_reader, field_reader, case_reader, record_at, tuple_at, list_at, variant_at, option_at, result_at}

abbrev Chosen : Type 0
Chosen = Labelled (Option Reader)

pub reader_of_tuple : (parts : List ValType) (text : List ℕ) → reader (types.Tuple parts) text ≡ tuple_at (map reader parts) text
reader_of_tuple parts text =
    ap (λ (t : ValType). reader t text) (sym (rolls-Tuple parts))
    ∙ ap (λ (r : Reader). r text) (fold-roll-ValType Reader Chosen Reader reader_step reader_case reader_field (F.Tuple parts))

pub reader_of_list : (element : ValType) (text : List ℕ) → reader (types.List element) text ≡ list_at (reader element) text
reader_of_list element text =
    ap (λ (t : ValType). reader t text) (sym (rolls-List element))
    ∙ ap (λ (r : Reader). r text) (fold-roll-ValType Reader Chosen Reader reader_step reader_case reader_field (F.List element))

pub reader_of_option : (part : ValType) (text : List ℕ) → reader (types.Option part) text ≡ option_at (reader part) text
reader_of_option part text =
    ap (λ (t : ValType). reader t text) (sym (rolls-Option part))
    ∙ ap (λ (r : Reader). r text) (fold-roll-ValType Reader Chosen Reader reader_step reader_case reader_field (F.Option part))

reader_of_field : (f : Field) → fold-Field Reader Chosen Reader reader_step reader_case reader_field f ≡ field_reader f
reader_of_field = fold_field Reader Chosen Reader reader_step reader_case reader_field

reader_of_payload : (p : Option ValType) → held reader p ≡ payload_reader p
reader_of_payload (Some p) = refl
reader_of_payload None = refl

reader_of_case : (c : Case) → fold-Case Reader Chosen Reader reader_step reader_case reader_field c ≡ case_reader c
reader_of_case c =
    fold_case Reader Chosen Reader reader_step reader_case reader_field c
    ∙ ap (λ (r : Option Reader). let l : Chosen = record { label = c.label; rest = r } in l) (reader_of_payload c.payload)

pub reader_of_record : (fields : List Field) (text : List ℕ) → reader (types.Record fields) text ≡ record_at (map field_reader fields) text
reader_of_record fields text =
    ap (λ (t : ValType). reader t text) (sym (rolls-Record fields))
    ∙ ap (λ (r : Reader). r text) (fold-roll-ValType Reader Chosen Reader reader_step reader_case reader_field (F.Record fields))
    ∙ ap (λ (rs : List Reader). record_at rs text) (map_alike _ _ reader_of_field fields)

pub reader_of_variant : (cases : List Case) (text : List ℕ) → reader (types.Variant cases) text ≡ variant_at (map case_reader cases) text
reader_of_variant cases text =
    ap (λ (t : ValType). reader t text) (sym (rolls-Variant cases))
    ∙ ap (λ (r : Reader). r text) (fold-roll-ValType Reader Chosen Reader reader_step reader_case reader_field (F.Variant cases))
    ∙ ap (λ (cs : List Chosen). variant_at cs text) (map_alike _ _ reader_of_case cases)

pub reader_of_result : (ok err : Option ValType) (text : List ℕ) → reader (types.Result ok err) text ≡ result_at (payload_reader ok) (payload_reader err) text
reader_of_result ok err text =
    ap (λ (t : ValType). reader t text) (sym (rolls-Result ok err))
    ∙ ap (λ (r : Reader). r text) (fold_result Reader Chosen Reader reader_step reader_case reader_field ok err)
    ∙ ap (λ (r : Option Reader). result_at r (held reader err) text) (reader_of_payload ok)
    ∙ ap (λ (r : Option Reader). result_at (payload_reader ok) r text) (reader_of_payload err)

-- the labels of the cases
pub labels_of_cases : (cases : List Case) → map (λ (c : Chosen). c.label) (map case_reader cases) ≡ map (λ (c : Case). c.label) cases
labels_of_cases [] = refl
labels_of_cases (c ∷ cases) = ap (λ ls. c.label ∷ ls) (labels_of_cases cases)
