-- What is written for a value of a type is a text of it, for every type.
use Rattle.std.proofs.Common.{◌≡◌, ◌∙◌, ◌⊎◌, inl, inr, ℕ, zero, suc, List, [], ◌∷◌, ◌++◌, length, map, codes, Bool, true, false, not, ◌&&◌, cond, get_or, nat_eq, Option, Some, None, refl, sym, ap, subst}
use Rattle.std.specs.List.{AllByRecursion, slice_get}
use Rattle.std.specs.Option.{option_map}
use Rattle.std.proofs.lemmas.Bool.{and_parts, cases_Bool, eqb-true, ltb-true}
use Rattle.std.proofs.lemmas.Option.{slice_get-get_or}
use Rattle.syntax_trees.specs.declared.types.ValType.{ValType, roll-ValType}
use Rattle.syntax_trees.specs.declared.types.Case.{Case}
use Rattle.syntax_trees.specs.declared.types.Field.{Field}
use Rattle.syntax_trees.specs.declared.types.ValType.TheViews as types
use Rattle.syntax_trees.specs.declared.types.ValType.TheViews.{roll-Case, roll-Field}
use Rattle.syntax_trees.specs.declared.types.ValType.TheVariants as leaves
use Rattle.syntax_trees.specs.declared.types.ValType.TheVariants.{rolls-Bool, rolls-S8, rolls-U8, rolls-S16, rolls-U16, rolls-S32, rolls-U32, rolls-S64, rolls-U64, rolls-Char, rolls-String, rolls-Record, rolls-Variant, rolls-List, rolls-Tuple, rolls-Flags, rolls-Enum, rolls-Option, rolls-Result}
use Rattle.syntax_trees.specs.declared.types.ValType.TheOpen as F
use Rattle.syntax_trees.specs.declared.types.ValType.TheFolds.{fold-roll-ValType, ind-ValType, map-ValType, map-Case, map-Field}
use Rattle.syntax_trees.specs.declared.value.Value.{Value, roll-Value, out-Value}
use Rattle.syntax_trees.specs.declared.value.Value.TheOpen as V
use Rattle.syntax_trees.specs.declared.value.Value.TheViews as values
use Rattle.syntax_trees.specs.declared.value.Value.TheVariants as plain
use Rattle.syntax_trees.specs.NameText.{name_text}
use Rattle.syntax_trees.specs.TypeText.{listed}
use Rattle.syntax_trees.specs.Fits.{Test, test_of, fits_step, fits_case, fits_field, payload_test, payload_passes, case_passes, is_record, is_list, is_flags, is_enum, is_variant, is_either}
use Rattle.syntax_trees.specs.ValueText.{Writer, Labelled, writer, writer_step, writer_case, writer_field, payload_writer, field_writer, case_writer, by_each, by_label, set_labels, payload_text, rest_text, tuple_text, list_text, flags_text, enum_text, chosen_text, variant_text, option_text, result_text, label_at}
use Rattle.syntax_trees.specs.ValueText.{record_text}
use Rattle.syntax_trees.proofs.Parts.{get_image}
use Rattle.syntax_trees.proofs.FitsEquations.{fits_of_tuple, fits_of_record, fits_of_variant, fits_of_result, passes_case, passes_no_case}
use Rattle.syntax_trees.proofs.WriterEquations.{writer_of_tuple, writer_of_record, writer_of_variant, writer_of_result, writes_case}
use Rattle.value_reader.specs.Writable.{all_true, true_if_some, is_label, are_labels, is_writable, may_be_silent, Told, told_step, told_case, told_field, is_sound}
use Rattle.value_reader.specs.Written as written
use Rattle.value_reader.specs.Written.{AreBlanks, bare, place_of_field, case_labels, IsText, IsPayload, no_payload}
use Rattle.value_reader.proofs.Cases.{some_inj, cases_Option, none_is_no_some, branch_true, branch_false}
use Rattle.value_reader.proofs.Telling.{all_get}
use Rattle.value_reader.proofs.WritingLeaves.{by_layer, sound_layer, written_bool, written_s8, written_u8, written_s16, written_u16, written_s32, written_u32, written_s64, written_u64, written_char, written_string}
use Rattle.syntax_trees.specs.Names.{is_among}
use Rattle.value_reader.proofs.PlainLabels.{name_stands, labels_stand}
use Rattle.value_reader.proofs.WritingLabels.{not_true, label_is_label, set_listed, set_shows, flags_of, place_found, label_at_place}
use Rattle.value_reader.proofs.Writing.{Writes, WritesRest, listed_texts, fields_written, parts_written, elements_written, payload_written, nothing_written}
use Rattle.value_reader.proofs.WritableEquations.{rest_writable, writable_of_tuple, writable_of_list, writable_of_option, writable_of_flags, writable_of_enum, writable_of_record, writable_of_variant, writable_of_result}
use Rattle.value_reader.proofs.Showing.{shows}

abbrev Rest : Type 0
Rest = Labelled (Option Writer)

abbrev Named : Type 0
Named = Labelled Writer

false_is_no_true : false ≡ true → ⊥
false_is_no_true h = cc

-- Records and tuples.
layer_record : (fields : List Field) → AllByRecursion (λ (f : Field). Writes f.val_type) fields → all_true (map (λ (f : Field). is_label f.label && is_writable f.val_type) fields) ≡ true
    → (o : V.Value-F Value) → is_record (map (λ (f : Field). test_of f.val_type) fields) o ≡ true → sound_layer o ≡ true → IsText (types.Record fields) (roll-Value o) (record_text (map field_writer fields) o)
layer_record fields a w (V.Record all) h s =
    let texts = by_label all (map field_writer fields) in
    subst (λ (v : Value). IsText (types.Record fields) v (codes "{" ++ listed texts ++ codes "}")) (sym (plain.rolls-Record all))
    (written.record_text fields all (listed texts) (listed_texts (map place_of_field fields) all texts (fields_written fields all a h s w)))
layer_record fields a w o h s = cc

pub writes_record : (fields : List Field) → AllByRecursion (λ (f : Field). Writes f.val_type) fields → Writes (types.Record fields)
writes_record fields a v h s w =
    by_layer (types.Record fields) (is_record (map (λ (f : Field). test_of f.val_type) fields)) (record_text (map field_writer fields)) (fits_of_record fields) (writer_of_record fields)
    (layer_record fields a (sym (writable_of_record fields) ∙ w)) v h s

layer_tuple : (parts : List ValType) → AllByRecursion Writes parts → all_true (map is_writable parts) ≡ true
    → (o : V.Value-F Value) → is_record (map test_of parts) o ≡ true → sound_layer o ≡ true → IsText (types.Tuple parts) (roll-Value o) (tuple_text (map writer parts) o)
layer_tuple parts a w (V.Record all) h s =
    let texts = by_each all (map writer parts) in
    subst (λ (v : Value). IsText (types.Tuple parts) v (codes "(" ++ listed texts ++ codes ")")) (sym (plain.rolls-Record all))
    (written.tuple_text parts all (listed texts) (listed_texts (map bare parts) all texts (parts_written parts all a h s w)))
layer_tuple parts a w o h s = cc

pub writes_tuple : (parts : List ValType) → AllByRecursion Writes parts → Writes (types.Tuple parts)
writes_tuple parts a v h s w =
    by_layer (types.Tuple parts) (is_record (map test_of parts)) (tuple_text (map writer parts)) (fits_of_tuple parts) (writer_of_tuple parts) (layer_tuple parts a (sym (writable_of_tuple parts) ∙ w)) v h s

-- Lists.
pub fits_of_list : (t : ValType) (v : Value) → test_of (types.List t) v ≡ is_list (test_of t) (out-Value v)
fits_of_list t v = ap (λ (t : ValType). test_of t v) (sym (rolls-List t)) ∙ ap (λ (t : Test). t v) (fold-roll-ValType Test (Option Test) Test fits_step fits_case fits_field (F.List t))

writer_of_list : (t : ValType) (v : Value) → writer (types.List t) v ≡ list_text (writer t) (out-Value v)
writer_of_list t v = ap (λ (t : ValType). writer t v) (sym (rolls-List t)) ∙ ap (λ (w : Writer). w v) (fold-roll-ValType Writer Rest Named writer_step writer_case writer_field (F.List t))

blank_front : (x y : List ℕ) → AreBlanks (x ++ y) → AreBlanks x
blank_front [] y a = tt
blank_front (b ∷ x) y a = (a.0, blank_front x y a.1)

-- elements that are written show
elements_show : (t : ValType) (all : List Value) → Writes t → is_list (test_of t) (V.List all) ≡ true → sound_layer (V.List all) ≡ true → is_writable t ≡ true
    → may_be_silent t ≡ false → AreBlanks (listed (map (writer t) all)) → all ≡ []
elements_show t [] a h s w n b = refl
elements_show t (v ∷ all) a h s w n b =
    let passes = (and_parts (test_of t v) _ h).0 in
    let sound = (and_parts (is_sound v) _ s).0 in
    absurd (shows (a v passes sound w) n (blank_front (writer t v) _ b))

layer_list : (t : ValType) → Writes t → is_writable t ≡ true → may_be_silent t ≡ false
    → (o : V.Value-F Value) → is_list (test_of t) o ≡ true → sound_layer o ≡ true → IsText (types.List t) (roll-Value o) (list_text (writer t) o)
layer_list t a w n (V.List all) h s =
    let texts = map (writer t) all in
    let is = listed_texts (map (λ (v : Value). bare t) all) all texts (elements_written t all a h s w) in
    subst (λ (v : Value). IsText (types.List t) v (codes "[" ++ listed texts ++ codes "]")) (sym (plain.rolls-List all))
    (written.list_text t all (listed texts) is (elements_show t all a h s w n))
layer_list t a w n o h s = cc

pub writes_list : (t : ValType) → Writes t → Writes (types.List t)
writes_list t a v h s w =
    let part = and_parts (is_writable t) (not (may_be_silent t)) (sym (writable_of_list t) ∙ w) in
    by_layer (types.List t) (is_list (test_of t)) (list_text (writer t)) (fits_of_list t) (writer_of_list t) (layer_list t a part.0 (not_true (may_be_silent t) part.1)) v h s

-- Flags and enums.
pub fits_of_flags : (labels : List (List ℕ)) (v : Value) → test_of (leaves.Flags labels) v ≡ is_flags (length labels) (out-Value v)
fits_of_flags labels v =
    ap (λ (t : ValType). test_of t v) (sym (rolls-Flags labels)) ∙ ap (λ (t : Test). t v) (fold-roll-ValType Test (Option Test) Test fits_step fits_case fits_field (F.Flags labels))

writer_of_flags : (labels : List (List ℕ)) (v : Value) → writer (leaves.Flags labels) v ≡ flags_text (map name_text labels) (out-Value v)
writer_of_flags labels v =
    ap (λ (t : ValType). writer t v) (sym (rolls-Flags labels)) ∙ ap (λ (w : Writer). w v) (fold-roll-ValType Writer Rest Named writer_step writer_case writer_field (F.Flags labels))

layer_flags : (labels : List (List ℕ)) → are_labels labels ≡ true → is_among [] labels ≡ false
    → (o : V.Value-F Value) → is_flags (length labels) o ≡ true → sound_layer o ≡ true → IsText (leaves.Flags labels) (roll-Value o) (flags_text labels o)
layer_flags labels w n (V.Flags flags) h s =
    let text = listed (set_labels labels flags) in
    let count = eqb-true (length flags) (length labels) h in
    subst (λ (v : Value). IsText (leaves.Flags labels) v (codes "{" ++ text ++ codes "}")) (sym (plain.rolls-Flags flags))
    (written.flags_text labels flags text (flags_of labels flags w count) (set_listed labels flags w) (set_shows labels flags w n))
layer_flags labels w n o h s = cc

pub writes_flags : (labels : List (List ℕ)) → Writes (leaves.Flags labels)
writes_flags labels v h s w =
    let good = and_parts (are_labels labels) (not (is_among [] labels)) (sym (writable_of_flags labels) ∙ w) in
    by_layer (leaves.Flags labels) (is_flags (length labels)) (flags_text labels) (fits_of_flags labels)
    (λ (u : Value). writer_of_flags labels u ∙ ap (λ (ls : List (List ℕ)). flags_text ls (out-Value u)) (labels_stand labels good.0)) (layer_flags labels good.0 (not_true (is_among [] labels) good.1)) v h s

pub fits_of_enum : (labels : List (List ℕ)) (v : Value) → test_of (leaves.Enum labels) v ≡ is_enum (length labels) (out-Value v)
fits_of_enum labels v =
    ap (λ (t : ValType). test_of t v) (sym (rolls-Enum labels)) ∙ ap (λ (t : Test). t v) (fold-roll-ValType Test (Option Test) Test fits_step fits_case fits_field (F.Enum labels))

writer_of_enum : (labels : List (List ℕ)) (v : Value) → writer (leaves.Enum labels) v ≡ enum_text (map name_text labels) (out-Value v)
writer_of_enum labels v =
    ap (λ (t : ValType). writer t v) (sym (rolls-Enum labels)) ∙ ap (λ (w : Writer). w v) (fold-roll-ValType Writer Rest Named writer_step writer_case writer_field (F.Enum labels))

layer_enum : (labels : List (List ℕ)) → are_labels labels ≡ true
    → (o : V.Value-F Value) → is_enum (length labels) o ≡ true → sound_layer o ≡ true → IsText (leaves.Enum labels) (roll-Value o) (enum_text labels o)
layer_enum labels w (V.Variant n None) h s =
    let l = get_or labels n [] in
    let there : slice_get labels n ≡ Some l = slice_get-get_or labels n [] (ltb-true n (length labels) h) in
    let is : IsText (leaves.Enum labels) (values.Variant n None) l = written.enum_text labels n l (label_is_label l (label_at_place labels n l w there)) (place_found labels n l w there) in
    subst (λ (x : List ℕ). IsText (leaves.Enum labels) (roll-Value (V.Variant n None)) x) (sym (ap label_at there))
    (subst (λ (v : Value). IsText (leaves.Enum labels) v l) (sym (plain.rolls-Variant n None)) is)
layer_enum labels w o h s = cc

pub writes_enum : (labels : List (List ℕ)) → Writes (leaves.Enum labels)
writes_enum labels v h s w =
    let good = sym (writable_of_enum labels) ∙ w in
    by_layer (leaves.Enum labels) (is_enum (length labels)) (enum_text labels) (fits_of_enum labels)
    (λ (u : Value). writer_of_enum labels u ∙ ap (λ (ls : List (List ℕ)). enum_text ls (out-Value u)) (labels_stand labels good)) (layer_enum labels good) v h s

-- Variants.
all_true_get : {A : Type 0} (f : A → Bool) (xs : List A) (n : ℕ) (x : A) → all_true (map f xs) ≡ true → slice_get xs n ≡ Some x → f x ≡ true
all_true_get f [] n x h e = absurd (none_is_no_some x e)
all_true_get f (y ∷ xs) zero x h e = subst (λ z. f z ≡ true) (some_inj e) (and_parts (f y) (all_true (map f xs)) h).0
all_true_get f (y ∷ xs) (suc n) x h e = all_true_get f xs n x (and_parts (f y) (all_true (map f xs)) h).1 e

variant_case : (cases : List Case) → AllByRecursion (λ (c : Case). WritesRest c.payload) cases → (are_labels (case_labels cases) && all_true (map rest_writable cases)) ≡ true
    → (n : ℕ) (p : Option Value) → case_passes (slice_get (map (λ (c : Case). payload_test c.payload) cases) n) p ≡ true → true_if_some (option_map is_sound p) ≡ true
    → IsText (types.Variant cases) (values.Variant n p) (chosen_text (slice_get (map case_writer cases) n) p)
variant_case cases a w n p h s =
    elim (cases_Option (slice_get cases n)) [
      | inl none ↦ absurd (false_is_no_true (sym (passes_no_case cases n p none) ∙ h))
      | inr some ↦
          let c = some.0 in
          let good = and_parts (are_labels (case_labels cases)) (all_true (map rest_writable cases)) w in
          let there : slice_get (case_labels cases) n ≡ Some c.label = get_image (λ (k : Case). k.label) cases n ∙ ap (option_map (λ (k : Case). k.label)) some.1 in
          let passes = sym (passes_case cases n p c some.1) ∙ h in
          let rest = all_get (λ (k : Case). WritesRest k.payload) cases n c a some.1 p passes s (all_true_get rest_writable cases n c good.1 some.1) in
          let good_label = label_at_place (case_labels cases) n c.label good.0 there in
          let label = label_is_label c.label good_label in
          let is = written.case_text cases n c p (rest_text (payload_writer c.payload) p) label (place_found (case_labels cases) n c.label good.0 there) some.1 rest in
          subst (λ (l : List ℕ). IsText (types.Variant cases) (values.Variant n p) l) (sym (writes_case cases n p c some.1 ∙ ap (λ (l : List ℕ). l ++ rest_text (payload_writer c.payload) p) (name_stands c.label good_label))) is
    ]

layer_variant : (cases : List Case) → AllByRecursion (λ (c : Case). WritesRest c.payload) cases → (are_labels (case_labels cases) && all_true (map rest_writable cases)) ≡ true
    → (o : V.Value-F Value) → is_variant (map (λ (c : Case). payload_test c.payload) cases) o ≡ true → sound_layer o ≡ true
    → IsText (types.Variant cases) (roll-Value o) (variant_text (map case_writer cases) o)
layer_variant cases a w (V.Variant n None) h s =
    subst (λ (v : Value). IsText (types.Variant cases) v (chosen_text (slice_get (map case_writer cases) n) None)) (sym (plain.rolls-Variant n None)) (variant_case cases a w n None h refl)
layer_variant cases a w (V.Variant n (Some u)) h s =
    subst (λ (v : Value). IsText (types.Variant cases) v (chosen_text (slice_get (map case_writer cases) n) (Some u))) (sym (plain.rolls-Variant n (Some u))) (variant_case cases a w n (Some u) h s)
layer_variant cases a w o h s = cc

pub writes_variant : (cases : List Case) → AllByRecursion (λ (c : Case). WritesRest c.payload) cases → Writes (types.Variant cases)
writes_variant cases a v h s w =
    by_layer (types.Variant cases) (is_variant (map (λ (c : Case). payload_test c.payload) cases)) (variant_text (map case_writer cases)) (fits_of_variant cases) (writer_of_variant cases)
    (layer_variant cases a (sym (writable_of_variant cases) ∙ w)) v h s

-- Options and results.
either_fits : (first second : Option Test) (n : ℕ) (p : Option Value) → is_either first second (V.Variant n p) ≡ true
    → ((n ≡ 0) × (payload_passes first p ≡ true)) ⊎ ((n ≡ 1) × (payload_passes second p ≡ true))
either_fits first second n p h =
    elim (cases_Bool (nat_eq n 0)) [
      | inl w ↦ inl (eqb-true n 0 w, branch_true (nat_eq n 0) (payload_passes first p) (cond (nat_eq n 1) (payload_passes second p) false) true w h)
      | inr w ↦
          let other = branch_false (nat_eq n 0) (payload_passes first p) (cond (nat_eq n 1) (payload_passes second p) false) true w h in
          elim (cases_Bool (nat_eq n 1)) [
            | inl u ↦ inr (eqb-true n 1 u, branch_true (nat_eq n 1) (payload_passes second p) false true u other)
            | inr u ↦ absurd (false_is_no_true (branch_false (nat_eq n 1) (payload_passes second p) false true u other))
          ]
    ]

pub fits_of_option : (t : ValType) (v : Value) → test_of (types.Option t) v ≡ is_either None (Some (test_of t)) (out-Value v)
fits_of_option t v = ap (λ (t : ValType). test_of t v) (sym (rolls-Option t)) ∙ ap (λ (t : Test). t v) (fold-roll-ValType Test (Option Test) Test fits_step fits_case fits_field (F.Option t))

writer_of_option : (t : ValType) (v : Value) → writer (types.Option t) v ≡ option_text (writer t) (out-Value v)
writer_of_option t v = ap (λ (t : ValType). writer t v) (sym (rolls-Option t)) ∙ ap (λ (w : Writer). w v) (fold-roll-ValType Writer Rest Named writer_step writer_case writer_field (F.Option t))

abbrev OptionText : ValType → ℕ → Option Value → Type 0
OptionText t n p = IsText (types.Option t) (values.Variant n p) (option_text (writer t) (V.Variant n p))

none_case : (t : ValType) (p : Option Value) → payload_passes None p ≡ true → OptionText t 0 p
none_case t None h = written.none_text t
none_case t (Some v) h = absurd (false_is_no_true h)

option_case : (t : ValType) → Writes t → is_writable t ≡ true → (n : ℕ) (p : Option Value) → is_either None (Some (test_of t)) (V.Variant n p) ≡ true → true_if_some (option_map is_sound p) ≡ true
    → OptionText t n p
option_case t a w n p h s =
    elim (either_fits None (Some (test_of t)) n p h) [
      | inl k ↦ subst (λ (m : ℕ). OptionText t m p) (sym k.0) (none_case t p k.1)
      | inr k ↦ subst (λ (m : ℕ). OptionText t m p) (sym k.0) (written.some_text t p (payload_text (writer t) p) (payload_written t a p k.1 s w))
    ]

layer_option : (t : ValType) → Writes t → is_writable t ≡ true
    → (o : V.Value-F Value) → is_either None (Some (test_of t)) o ≡ true → sound_layer o ≡ true → IsText (types.Option t) (roll-Value o) (option_text (writer t) o)
layer_option t a w (V.Variant n None) h s =
    subst (λ (v : Value). IsText (types.Option t) v (option_text (writer t) (V.Variant n None))) (sym (plain.rolls-Variant n None)) (option_case t a w n None h refl)
layer_option t a w (V.Variant n (Some u)) h s =
    subst (λ (v : Value). IsText (types.Option t) v (option_text (writer t) (V.Variant n (Some u)))) (sym (plain.rolls-Variant n (Some u))) (option_case t a w n (Some u) h s)
layer_option t a w o h s = cc

pub writes_option : (t : ValType) → Writes t → Writes (types.Option t)
writes_option t a v h s w =
    let part = sym (writable_of_option t) ∙ w in
    by_layer (types.Option t) (is_either None (Some (test_of t))) (option_text (writer t)) (fits_of_option t) (writer_of_option t) (layer_option t a part) v h s

abbrev ResultText : Option ValType → Option ValType → ℕ → Option Value → Type 0
ResultText ok err n p = IsText (types.Result ok err) (values.Variant n p) (result_text (payload_writer ok) (payload_writer err) (V.Variant n p))

result_case : (ok err : Option ValType) → WritesRest ok → WritesRest err → (true_if_some (option_map is_writable ok) && true_if_some (option_map is_writable err)) ≡ true
    → (n : ℕ) (p : Option Value) → is_either (payload_test ok) (payload_test err) (V.Variant n p) ≡ true → true_if_some (option_map is_sound p) ≡ true → ResultText ok err n p
result_case ok err a b w n p h s =
    let good = and_parts (true_if_some (option_map is_writable ok)) (true_if_some (option_map is_writable err)) w in
    elim (either_fits (payload_test ok) (payload_test err) n p h) [
      | inl k ↦ subst (λ (m : ℕ). ResultText ok err m p) (sym k.0) (written.ok_text ok err p (rest_text (payload_writer ok) p) (a p k.1 s good.0))
      | inr k ↦ subst (λ (m : ℕ). ResultText ok err m p) (sym k.0) (written.err_text ok err p (rest_text (payload_writer err) p) (b p k.1 s good.1))
    ]

layer_result : (ok err : Option ValType) → WritesRest ok → WritesRest err → (true_if_some (option_map is_writable ok) && true_if_some (option_map is_writable err)) ≡ true
    → (o : V.Value-F Value) → is_either (payload_test ok) (payload_test err) o ≡ true → sound_layer o ≡ true → IsText (types.Result ok err) (roll-Value o) (result_text (payload_writer ok) (payload_writer err) o)
layer_result ok err a b w (V.Variant n None) h s =
    subst (λ (v : Value). IsText (types.Result ok err) v (result_text (payload_writer ok) (payload_writer err) (V.Variant n None))) (sym (plain.rolls-Variant n None)) (result_case ok err a b w n None h refl)
layer_result ok err a b w (V.Variant n (Some u)) h s =
    subst (λ (v : Value). IsText (types.Result ok err) v (result_text (payload_writer ok) (payload_writer err) (V.Variant n (Some u)))) (sym (plain.rolls-Variant n (Some u))) (result_case ok err a b w n (Some u) h s)
layer_result ok err a b w o h s = cc

pub writes_result : (ok err : Option ValType) → WritesRest ok → WritesRest err → Writes (types.Result ok err)
writes_result ok err a b v h s w =
    by_layer (types.Result ok err) (is_either (payload_test ok) (payload_test err)) (result_text (payload_writer ok) (payload_writer err)) (fits_of_result ok err) (writer_of_result ok err)
    (layer_result ok err a b (sym (writable_of_result ok err) ∙ w)) v h s

-- A type whose values no script can write.
unwritten : (t : ValType) → is_writable t ≡ false → Writes t
unwritten t e v h s w = absurd (false_is_no_true (sym e ∙ w))

-- Every type.
abbrev WritesCase : Case → Type 0
WritesCase c = WritesRest c.payload

abbrev WritesField : Field → Type 0
WritesField f = Writes f.val_type

abbrev OfType : Type 0
OfType = (t : ValType) × Writes t

abbrev OfCase : Type 0
OfCase = (c : Case) × WritesCase c

abbrev OfField : Type 0
OfField = (f : Field) × WritesField f

all_of : {A : Type 0} (P : A → Type 0) (l : List ((x : A) × P x)) → AllByRecursion P (map (λ (e : (x : A) × P x). e.0) l)
all_of P [] = tt
all_of P (e ∷ l) = (e.1, all_of P l)

writes_at : (s t : ValType) → s ≡ t → Writes t → Writes s
writes_at s t e a = subst Writes (sym e) a

leaf : (t : ValType) → ((v : Value) → test_of t v ≡ true → is_sound v ≡ true → IsText t v (writer t v)) → Writes t
leaf t a v h s w = a v h s

abbrev layer : F.ValType-F OfType OfCase OfField → F.ValType-F ValType Case Field
layer y = map-ValType OfType OfCase OfField ValType Case Field (λ e. e.0) (λ e. e.0) (λ e. e.0) y

abbrev Chosen : Type 0
Chosen = Labelled Told

writes_step : (y : F.ValType-F OfType OfCase OfField) → Writes (roll-ValType (layer y))
writes_step F.Bool = writes_at _ leaves.Bool rolls-Bool (leaf leaves.Bool written_bool)
writes_step F.S8 = writes_at _ leaves.S8 rolls-S8 (leaf leaves.S8 written_s8)
writes_step F.U8 = writes_at _ leaves.U8 rolls-U8 (leaf leaves.U8 written_u8)
writes_step F.S16 = writes_at _ leaves.S16 rolls-S16 (leaf leaves.S16 written_s16)
writes_step F.U16 = writes_at _ leaves.U16 rolls-U16 (leaf leaves.U16 written_u16)
writes_step F.S32 = writes_at _ leaves.S32 rolls-S32 (leaf leaves.S32 written_s32)
writes_step F.U32 = writes_at _ leaves.U32 rolls-U32 (leaf leaves.U32 written_u32)
writes_step F.S64 = writes_at _ leaves.S64 rolls-S64 (leaf leaves.S64 written_s64)
writes_step F.U64 = writes_at _ leaves.U64 rolls-U64 (leaf leaves.U64 written_u64)
writes_step F.Char = writes_at _ leaves.Char rolls-Char (leaf leaves.Char written_char)
writes_step F.String = writes_at _ leaves.String rolls-String (leaf leaves.String written_string)
writes_step (F.Record fields) =
    let all = map (λ (e : OfField). e.0) fields in
    writes_at (roll-ValType (F.Record all)) (types.Record all) (rolls-Record all) (writes_record all (all_of WritesField fields))
writes_step (F.Variant cases) =
    let all = map (λ (e : OfCase). e.0) cases in
    writes_at (roll-ValType (F.Variant all)) (types.Variant all) (rolls-Variant all) (writes_variant all (all_of WritesCase cases))
writes_step (F.List e) = writes_at (roll-ValType (F.List e.0)) (types.List e.0) (rolls-List e.0) (writes_list e.0 e.1)
writes_step (F.Tuple parts) =
    let all = map (λ (e : OfType). e.0) parts in
    writes_at (roll-ValType (F.Tuple all)) (types.Tuple all) (rolls-Tuple all) (writes_tuple all (all_of Writes parts))
writes_step (F.Flags labels) = writes_at (roll-ValType (F.Flags labels)) (leaves.Flags labels) (rolls-Flags labels) (writes_flags labels)
writes_step (F.Enum labels) = writes_at (roll-ValType (F.Enum labels)) (leaves.Enum labels) (rolls-Enum labels) (writes_enum labels)
writes_step (F.Option e) = writes_at (roll-ValType (F.Option e.0)) (types.Option e.0) (rolls-Option e.0) (writes_option e.0 e.1)
writes_step (F.Result None None) = writes_at (roll-ValType (F.Result None None)) (types.Result None None) (rolls-Result None None) (writes_result None None nothing_written nothing_written)
writes_step (F.Result None (Some e)) =
    writes_at (roll-ValType (F.Result None (Some e.0))) (types.Result None (Some e.0)) (rolls-Result None (Some e.0)) (writes_result None (Some e.0) nothing_written (payload_written e.0 e.1))
writes_step (F.Result (Some o) None) =
    writes_at (roll-ValType (F.Result (Some o.0) None)) (types.Result (Some o.0) None) (rolls-Result (Some o.0) None) (writes_result (Some o.0) None (payload_written o.0 o.1) nothing_written)
writes_step (F.Result (Some o) (Some e)) =
    writes_at (roll-ValType (F.Result (Some o.0) (Some e.0))) (types.Result (Some o.0) (Some e.0)) (rolls-Result (Some o.0) (Some e.0))
    (writes_result (Some o.0) (Some e.0) (payload_written o.0 o.1) (payload_written e.0 e.1))
writes_step (F.Own n) = unwritten (roll-ValType (F.Own n)) (ap (λ (k : Told). k.writable) (fold-roll-ValType Told Chosen Bool told_step told_case told_field (F.Own n)))
writes_step (F.Borrow n) = unwritten (roll-ValType (F.Borrow n)) (ap (λ (k : Told). k.writable) (fold-roll-ValType Told Chosen Bool told_step told_case told_field (F.Borrow n)))
writes_step (F.Stream e) = unwritten (roll-ValType (layer (F.Stream e))) (ap (λ (k : Told). k.writable) (fold-roll-ValType Told Chosen Bool told_step told_case told_field (layer (F.Stream e))))
writes_step (F.Future e) = unwritten (roll-ValType (layer (F.Future e))) (ap (λ (k : Told). k.writable) (fold-roll-ValType Told Chosen Bool told_step told_case told_field (layer (F.Future e))))

writes_case_step : (y : F.Case-F OfType OfCase OfField) → WritesCase (roll-Case (map-Case OfType OfCase OfField ValType Case Field (λ e. e.0) (λ e. e.0) (λ e. e.0) y))
writes_case_step y =
    elim y.payload as (λ p. WritesCase (roll-Case (map-Case OfType OfCase OfField ValType Case Field (λ e. e.0) (λ e. e.0) (λ e. e.0) (record { label = y.label; payload = p })))) [
      | Some e ↦ payload_written e.0 e.1
      | None ↦ nothing_written
    ]

writes_field_step : (y : F.Field-F OfType OfCase OfField) → WritesField (roll-Field (map-Field OfType OfCase OfField ValType Case Field (λ e. e.0) (λ e. e.0) (λ e. e.0) y))
writes_field_step y = y.val_type.1

pub writes_type : (t : ValType) → Writes t
writes_type =
    ind-ValType Writes WritesCase WritesField
    (λ x y e. subst (λ (z : F.ValType-F ValType Case Field). Writes (roll-ValType z)) e (writes_step y))
    (λ x y e. subst (λ (z : F.Case-F ValType Case Field). WritesCase (roll-Case z)) e (writes_case_step y))
    (λ x y e. subst (λ (z : F.Field-F ValType Case Field). WritesField (roll-Field z)) e (writes_field_step y))
