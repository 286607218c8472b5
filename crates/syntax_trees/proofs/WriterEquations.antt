-- What texts of values are for the types that hold others.
use Rattle.std.proofs.lemmas.Bool.Decides.{nat_tests}
use Rattle.std.proofs.Common.{◌≡◌, ◌∙◌, ℕ, ◌++◌, rules, Bool, List, [], map, ap, sym, refl, Option, Some, None, arith}
use Rattle.syntax_trees.specs.declared.types.ValType.{ValType}
use Rattle.syntax_trees.specs.declared.types.Case.{Case}
use Rattle.syntax_trees.specs.declared.types.Field.{Field}
use Rattle.syntax_trees.specs.declared.types.ValType.TheViews as types
use Rattle.syntax_trees.specs.declared.types.ValType.TheVariants as leaves
use Rattle.syntax_trees.specs.declared.types.ValType.TheOpen as F
use Rattle.syntax_trees.specs.declared.types.ValType.TheFolds.{fold-Case, fold-Field, fold-roll-ValType}
use Rattle.syntax_trees.specs.declared.types.ValType.TheVariants.{rolls-Tuple, rolls-Record, rolls-Variant, rolls-Result, rolls-List, rolls-Flags, rolls-Enum, rolls-Option}
use Rattle.syntax_trees.proofs.Folds.{held, fold_case, fold_field, fold_result}
use Rattle.syntax_trees.proofs.Parts.{map_alike, get_image}
use Rattle.syntax_trees.specs.declared.value.Value.{Value, out-Value}
use Rattle.syntax_trees.specs.ValueText.{Writer, Labelled, writer, writer_step, writer_case, writer_field, payload_writer, field_writer, case_writer, record_text, tuple_text, variant_text, result_text, chosen_text, rest_text, label_at, list_text, flags_text, enum_text, option_text, payload_text, by_label, by_each, set_labels}
use Rattle.syntax_trees.specs.declared.value.Value.TheViews as values
use Rattle.syntax_trees.specs.declared.value.Value.TheVariants as plain
use Rattle.syntax_trees.specs.declared.value.Value.TheViews.{the_lemmas}
use Rattle.std.specs.Prelude.{codes, ◌==◌, if◌then◌else◌}
use Rattle.syntax_trees.specs.NameText.{name_text}
use Rattle.syntax_trees.specs.TypeText.{Chars, listed}
use Rattle.std.specs.List.{slice_get}
use Rattle.std.specs.Option.{option_map}

abbrev Rest : Type 0
Rest = Labelled (Option Writer)

abbrev Named : Type 0
Named = Labelled Writer

pub writer_of_tuple : (parts : List ValType) (v : Value) → writer (types.Tuple parts) v ≡ tuple_text (map writer parts) (out-Value v)
writer_of_tuple parts v =
    ap (λ (t : ValType). writer t v) (sym (rolls-Tuple parts))
    ∙ ap (λ (w : Writer). w v) (fold-roll-ValType Writer Rest Named writer_step writer_case writer_field (F.Tuple parts))

writer_of_field : (f : Field) → fold-Field Writer Rest Named writer_step writer_case writer_field f ≡ field_writer f
writer_of_field = fold_field Writer Rest Named writer_step writer_case writer_field

writer_of_payload : (p : Option ValType) → held writer p ≡ payload_writer p
writer_of_payload (Some p) = refl
writer_of_payload None = refl

writer_of_case : (c : Case) → fold-Case Writer Rest Named writer_step writer_case writer_field c ≡ case_writer c
writer_of_case c =
    fold_case Writer Rest Named writer_step writer_case writer_field c
    ∙ ap (λ (w : Option Writer). let l : Rest = record { label = name_text c.label; rest = w } in l) (writer_of_payload c.payload)

pub writer_of_record : (fields : List Field) (v : Value) → writer (types.Record fields) v ≡ record_text (map field_writer fields) (out-Value v)
writer_of_record fields v =
    ap (λ (t : ValType). writer t v) (sym (rolls-Record fields))
    ∙ ap (λ (w : Writer). w v) (fold-roll-ValType Writer Rest Named writer_step writer_case writer_field (F.Record fields))
    ∙ ap (λ (ws : List Named). record_text ws (out-Value v)) (map_alike _ _ writer_of_field fields)

pub writer_of_variant : (cases : List Case) (v : Value) → writer (types.Variant cases) v ≡ variant_text (map case_writer cases) (out-Value v)
writer_of_variant cases v =
    ap (λ (t : ValType). writer t v) (sym (rolls-Variant cases))
    ∙ ap (λ (w : Writer). w v) (fold-roll-ValType Writer Rest Named writer_step writer_case writer_field (F.Variant cases))
    ∙ ap (λ (ws : List Rest). variant_text ws (out-Value v)) (map_alike _ _ writer_of_case cases)

pub writer_of_result : (ok err : Option ValType) (v : Value) → writer (types.Result ok err) v ≡ result_text (payload_writer ok) (payload_writer err) (out-Value v)
writer_of_result ok err v =
    ap (λ (t : ValType). writer t v) (sym (rolls-Result ok err))
    ∙ ap (λ (w : Writer). w v) (fold_result Writer Rest Named writer_step writer_case writer_field ok err)
    ∙ ap (λ (w : Option Writer). result_text w (held writer err) (out-Value v)) (writer_of_payload ok)
    ∙ ap (λ (w : Option Writer). result_text (payload_writer ok) w (out-Value v)) (writer_of_payload err)

pub writes_case : (cases : List Case) (n : ℕ) (p : Option Value) (c : Case) → slice_get cases n ≡ Some c
    → chosen_text (slice_get (map case_writer cases) n) p ≡ name_text c.label ++ rest_text (payload_writer c.payload) p
writes_case cases n p c h = ap (λ (w : Option Rest). chosen_text w p) (get_image case_writer cases n ∙ ap (option_map case_writer) h)

pub writes_no_case : (cases : List Case) (n : ℕ) (p : Option Value) → slice_get cases n ≡ None → chosen_text (slice_get (map case_writer cases) n) p ≡ []
writes_no_case cases n p h = ap (λ (w : Option Rest). chosen_text w p) (get_image case_writer cases n ∙ ap (option_map case_writer) h)

pub writes_label : (labels : List Chars) (n : ℕ) (l : Chars) → slice_get labels n ≡ Some l → label_at (slice_get (map name_text labels) n) ≡ name_text l
writes_label labels n l h = ap label_at (get_image name_text labels n ∙ ap (option_map name_text) h)

pub writes_no_label : (labels : List Chars) (n : ℕ) → slice_get labels n ≡ None → label_at (slice_get (map name_text labels) n) ≡ []
writes_no_label labels n h = ap label_at (get_image name_text labels n ∙ ap (option_map name_text) h)

-- Values that are opened.
record_out : (fields : List Named) (vs : List Value) → record_text fields (out-Value (values.Record vs)) ≡ codes "{" ++ listed (by_label vs fields) ++ codes "}"
record_out fields vs = search (rules, the_lemmas)

tuple_out : (parts : List Writer) (vs : List Value) → tuple_text parts (out-Value (values.Record vs)) ≡ codes "(" ++ listed (by_each vs parts) ++ codes ")"
tuple_out parts vs = search (rules, the_lemmas)

list_out : (element : Writer) (vs : List Value) → list_text element (out-Value (values.List vs)) ≡ codes "[" ++ listed (map element vs) ++ codes "]"
list_out element vs = search (rules, the_lemmas)

flags_out : (labels : List Chars) (fs : List Bool) → flags_text labels (out-Value (plain.Flags fs)) ≡ codes "{" ++ listed (set_labels labels fs) ++ codes "}"
flags_out labels fs = search (rules, the_lemmas)

enum_out : (labels : List Chars) (n : ℕ) (p : Option Value) → enum_text labels (out-Value (values.Variant n p)) ≡ label_at (slice_get labels n)
enum_out labels n p = search (rules, the_lemmas)

variant_out : (cases : List Rest) (n : ℕ) (p : Option Value) → variant_text cases (out-Value (values.Variant n p)) ≡ chosen_text (slice_get cases n) p
variant_out cases n p = search (rules, the_lemmas)

not_first : (n : ℕ) (a b : Chars) → (n ≡ 0 → ⊥) → (if n == 0 then a else b) ≡ b
not_first n a b h = grind (arith, nat_tests)

option_opened : (w : Writer) (n : ℕ) (p : Option Value) → option_text w (out-Value (values.Variant n p)) ≡ (if n == 0 then codes "none" else (codes "some" ++ payload_text w p))
option_opened w n p = search (rules, the_lemmas)

result_opened : (ok err : Option Writer) (n : ℕ) (p : Option Value)
    → result_text ok err (out-Value (values.Variant n p)) ≡ (if n == 0 then (codes "ok" ++ rest_text ok p) else (codes "err" ++ rest_text err p))
result_opened ok err n p = search (rules, the_lemmas)

option_out : (w : Writer) (n : ℕ) (p : Option Value) → (n ≡ 0 → ⊥) → option_text w (out-Value (values.Variant n p)) ≡ codes "some" ++ payload_text w p
option_out w n p h = option_opened w n p ∙ not_first n _ _ h

result_out : (ok err : Option Writer) (n : ℕ) (p : Option Value) → (n ≡ 0 → ⊥) → result_text ok err (out-Value (values.Variant n p)) ≡ codes "err" ++ rest_text err p
result_out ok err n p h = result_opened ok err n p ∙ not_first n _ _ h

-- What a value of a type is written as.
pub write_record : (t : ValType) (v : Value) (fields : List Field) (vs : List Value) → t ≡ types.Record fields → v ≡ values.Record vs
    → writer t v ≡ codes "{" ++ listed (by_label vs (map field_writer fields)) ++ codes "}"
write_record t v fields vs e f =
    ap (λ (t : ValType). writer t v) e ∙ writer_of_record fields v
    ∙ ap (λ (v : Value). record_text (map field_writer fields) (out-Value v)) f ∙ record_out (map field_writer fields) vs

pub write_tuple : (t : ValType) (v : Value) (parts : List ValType) (vs : List Value) → t ≡ types.Tuple parts → v ≡ values.Record vs
    → writer t v ≡ codes "(" ++ listed (by_each vs (map writer parts)) ++ codes ")"
write_tuple t v parts vs e f =
    ap (λ (t : ValType). writer t v) e ∙ writer_of_tuple parts v
    ∙ ap (λ (v : Value). tuple_text (map writer parts) (out-Value v)) f ∙ tuple_out (map writer parts) vs

pub write_list : (t : ValType) (v : Value) (element : ValType) (vs : List Value) → t ≡ types.List element → v ≡ values.List vs
    → writer t v ≡ codes "[" ++ listed (map (writer element) vs) ++ codes "]"
write_list t v element vs e f =
    ap (λ (t : ValType). writer t v) (e ∙ sym (rolls-List element))
    ∙ ap (λ (w : Writer). w v) (fold-roll-ValType Writer Rest Named writer_step writer_case writer_field (F.List element))
    ∙ ap (λ (v : Value). list_text (writer element) (out-Value v)) f ∙ list_out (writer element) vs

pub write_flags : (t : ValType) (v : Value) (labels : List Chars) (fs : List Bool) → t ≡ leaves.Flags labels → v ≡ plain.Flags fs
    → writer t v ≡ codes "{" ++ listed (set_labels (map name_text labels) fs) ++ codes "}"
write_flags t v labels fs e f =
    ap (λ (t : ValType). writer t v) (e ∙ sym (rolls-Flags labels))
    ∙ ap (λ (w : Writer). w v) (fold-roll-ValType Writer Rest Named writer_step writer_case writer_field (F.Flags labels))
    ∙ ap (λ (v : Value). flags_text (map name_text labels) (out-Value v)) f ∙ flags_out (map name_text labels) fs

pub write_enum : (t : ValType) (v : Value) (labels : List Chars) (n : ℕ) (p : Option Value) → t ≡ leaves.Enum labels → v ≡ values.Variant n p
    → writer t v ≡ label_at (slice_get (map name_text labels) n)
write_enum t v labels n p e f =
    ap (λ (t : ValType). writer t v) (e ∙ sym (rolls-Enum labels))
    ∙ ap (λ (w : Writer). w v) (fold-roll-ValType Writer Rest Named writer_step writer_case writer_field (F.Enum labels))
    ∙ ap (λ (v : Value). enum_text (map name_text labels) (out-Value v)) f ∙ enum_out (map name_text labels) n p

pub write_variant : (t : ValType) (v : Value) (cases : List Case) (n : ℕ) (p : Option Value) → t ≡ types.Variant cases → v ≡ values.Variant n p
    → writer t v ≡ chosen_text (slice_get (map case_writer cases) n) p
write_variant t v cases n p e f =
    ap (λ (t : ValType). writer t v) e ∙ writer_of_variant cases v
    ∙ ap (λ (v : Value). variant_text (map case_writer cases) (out-Value v)) f ∙ variant_out (map case_writer cases) n p

pub write_option : (t : ValType) (v : Value) (part : ValType) (n : ℕ) (p : Option Value) → t ≡ types.Option part → v ≡ values.Variant n p → (n ≡ 0 → ⊥)
    → writer t v ≡ codes "some" ++ payload_text (writer part) p
write_option t v part n p e f h =
    ap (λ (t : ValType). writer t v) (e ∙ sym (rolls-Option part))
    ∙ ap (λ (w : Writer). w v) (fold-roll-ValType Writer Rest Named writer_step writer_case writer_field (F.Option part))
    ∙ ap (λ (v : Value). option_text (writer part) (out-Value v)) f ∙ option_out (writer part) n p h

pub write_err : (t : ValType) (v : Value) (ok err : Option ValType) (n : ℕ) (p : Option Value) → t ≡ types.Result ok err → v ≡ values.Variant n p → (n ≡ 0 → ⊥)
    → writer t v ≡ codes "err" ++ rest_text (payload_writer err) p
write_err t v ok err n p e f h =
    ap (λ (t : ValType). writer t v) e ∙ writer_of_result ok err v
    ∙ ap (λ (v : Value). result_text (payload_writer ok) (payload_writer err) (out-Value v)) f ∙ result_out (payload_writer ok) (payload_writer err) n p h
