-- What is written for a type is a value of the type, and sound.
use Rattle.std.proofs.Common.{◌≡◌, ◌∙◌, ◌<◌, rules, ℕ, suc, List, [], ◌∷◌, length, map, Bool, true, false, ◌&&◌, Option, Some, None, refl, sym, ap, subst}
use Rattle.std.specs.Prelude.{ℤ, pos, negsuc}
use Rattle.std.specs.Str.{bytes_eq}
use Rattle.std.proofs.lemmas.Bool.{le-leb, lt-ltb, eq-eqb, and_from}
use Rattle.std.proofs.lemmas.Str.{is_utf8-from_IsUtf8}
use Rattle.std.proofs.lemmas.List.Quantifiers.{position-Some}
use Rattle.syntax_trees.specs.declared.types.ValType.{ValType}
use Rattle.syntax_trees.specs.declared.types.Case.{Case}
use Rattle.syntax_trees.specs.declared.types.Field.{Field}
use Rattle.syntax_trees.specs.declared.types.ValType.TheViews as types
use Rattle.syntax_trees.specs.declared.types.ValType.TheVariants as leaves
use Rattle.syntax_trees.specs.declared.value.Value.{Value, roll-Value, out-Value}
use Rattle.syntax_trees.specs.declared.value.Value.TheOpen as V
use Rattle.syntax_trees.specs.declared.value.Value.TheViews.{the_lemmas}
use Rattle.syntax_trees.specs.declared.value.Value.TheVariants as plain
use Rattle.syntax_trees.specs.declared.value.Value.TheFolds.{fold-roll-Value}
use Rattle.syntax_trees.specs.Fits.{Test, test_of, payload_test, payload_passes, each_passes, all_pass, is_bool, is_s8, is_u8, is_s16, is_u16, is_s32, is_u32, is_s64, is_u64, is_char, is_string, is_record, is_list, is_variant, is_enum, is_flags, is_either}
use Rattle.syntax_trees.proofs.FitsEquations.{fits_of_tuple, fits_of_record, fits_of_variant, fits_of_result, passes_case}
use Rattle.value_reader.specs.Syntax.{IsInRange}
use Rattle.value_reader.specs.Values.{place_of}
use Rattle.value_reader.specs.Writable.{all_true, is_within, sound_step, is_sound}
use Rattle.value_reader.specs.Written.{Place, bare, named, place_of_field, AreFlags, IsText, IsPayload, IsPlacedText, IsSpacedText, AreTexts, true_text, false_text, s8_text, u8_text, s16_text, u16_text, s32_text, u32_text, s64_text, u64_text, char_text, string_text, record_text, tuple_text, list_text, flags_text, enum_text, case_text, none_text, some_text, ok_text, err_text, no_payload, payload_text, bare_text, labelled_text, spaced_text, no_texts, one_text, more_texts}
use Rattle.value_reader.proofs.WritingLeaves.{sound_layer, fits_of_bool, fits_of_s8, fits_of_u8, fits_of_s16, fits_of_u16, fits_of_s32, fits_of_u32, fits_of_s64, fits_of_u64, fits_of_char, fits_of_string}
use Rattle.value_reader.proofs.TypesWritten.{fits_of_list, fits_of_flags, fits_of_enum, fits_of_option}

-- A value is of a type, and sound.
abbrev pub Fit : ValType → Value → Type 0
Fit t v = (test_of t v ≡ true) × (is_sound v ≡ true)

-- the same of a payload
abbrev sound_rest : Option Value → Bool
sound_rest (Some v) = is_sound v
sound_rest None = true

abbrev pub FitRest : Option ValType → Option Value → Type 0
FitRest t v = (payload_passes (payload_test t) v ≡ true) × (sound_rest v ≡ true)

-- A value by its outer layer.
out_roll : (o : V.Value-F Value) → out-Value (roll-Value o) ≡ o
out_roll o = search (rules, the_lemmas)

by_layer : (t : ValType) (test : V.Value-F Value → Bool) → ((v : Value) → test_of t v ≡ test (out-Value v))
    → (o : V.Value-F Value) (v : Value) → roll-Value o ≡ v → test o ≡ true → sound_layer o ≡ true → Fit t v
by_layer t test tested o v e h s =
    subst (λ (w : Value). Fit t w) e (tested (roll-Value o) ∙ ap test (out_roll o) ∙ h, fold-roll-Value Bool sound_step o ∙ s)

-- Numbers.
within_range : (most : ℕ) (n : ℤ) → IsInRange most n → is_within most n ≡ true
within_range most (pos n) h = le-leb n most h
within_range most (negsuc n) h = le-leb n most h

-- Flags and enums.
as_many_flags : (labels : List (List ℕ)) (flags : List Bool) → AreFlags labels flags → length flags ≡ length labels
as_many_flags [] [] a = refl
as_many_flags [] (f ∷ flags) a = absurd a
as_many_flags (l ∷ labels) [] a = absurd a
as_many_flags (l ∷ labels) (true ∷ flags) a = ap (λ (n : ℕ). suc n) (as_many_flags labels flags a)
as_many_flags (l ∷ labels) (false ∷ flags) a = ap (λ (n : ℕ). suc n) (as_many_flags labels flags a.1)

place_within : (labels : List (List ℕ)) (n : ℕ) (label : List ℕ) → place_of label labels ≡ Some n → n < length labels
place_within labels n label h = (position-Some (λ (l : List ℕ). bytes_eq l label) labels n [] h).0

-- Values with payloads.
variant_sound : (n : ℕ) (p : Option Value) → sound_rest p ≡ true → sound_layer (V.Variant n p) ≡ true
variant_sound n None h = refl
variant_sound n (Some v) h = h

-- Values one after the other.
abbrev type_of : Place → ValType
type_of (bare t) = t
type_of (named label t) = t

abbrev place_test : Place → Test
place_test p = test_of (type_of p)

tests_of_fields : (fields : List Field) → map place_test (map place_of_field fields) ≡ map (λ (f : Field). test_of f.val_type) fields
tests_of_fields [] = refl
tests_of_fields (f ∷ fields) = ap (λ (l : List Test). test_of f.val_type ∷ l) (tests_of_fields fields)

pub tests_of_parts : (parts : List ValType) → map place_test (map bare parts) ≡ map test_of parts
tests_of_parts [] = refl
tests_of_parts (t ∷ parts) = ap (λ (l : List Test). test_of t ∷ l) (tests_of_parts parts)

tests_of_elements : (t : ValType) (all : List Value) → each_passes (map place_test (map (λ (v : Value). bare t) all)) all ≡ all_pass (test_of t) all
tests_of_elements t [] = refl
tests_of_elements t (v ∷ all) = ap (λ (b : Bool). test_of t v && b) (tests_of_elements t all)

abbrev FitAll : List Place → List Value → Type 0
FitAll places all = (each_passes (map place_test places) all ≡ true) × (all_true (map is_sound all) ≡ true)

one_more : (p : Place) (places : List Place) (v : Value) (all : List Value) → Fit (type_of p) v → FitAll places all → FitAll (p ∷ places) (v ∷ all)
one_more p places v all f a = (and_from (place_test p v) (each_passes (map place_test places) all) f.0 a.0, and_from (is_sound v) (all_true (map is_sound all)) f.1 a.1)

mutual
  pub fit_text : {t : ValType} {v : Value} {text : List ℕ} → IsText t v text → Fit t v
  fit_text true_text = by_layer leaves.Bool is_bool fits_of_bool (V.Bool true) _ (plain.rolls-Bool true) refl refl
  fit_text false_text = by_layer leaves.Bool is_bool fits_of_bool (V.Bool false) _ (plain.rolls-Bool false) refl refl
  fit_text (s8_text n text i r) = by_layer leaves.S8 is_s8 fits_of_s8 (V.S8 n) _ (plain.rolls-S8 n) refl (within_range 0x7F n r)
  fit_text (u8_text n text i r) = by_layer leaves.U8 is_u8 fits_of_u8 (V.U8 n) _ (plain.rolls-U8 n) refl (le-leb n 0xFF r)
  fit_text (s16_text n text i r) = by_layer leaves.S16 is_s16 fits_of_s16 (V.S16 n) _ (plain.rolls-S16 n) refl (within_range 0x7FFF n r)
  fit_text (u16_text n text i r) = by_layer leaves.U16 is_u16 fits_of_u16 (V.U16 n) _ (plain.rolls-U16 n) refl (le-leb n 0xFFFF r)
  fit_text (s32_text n text i r) = by_layer leaves.S32 is_s32 fits_of_s32 (V.S32 n) _ (plain.rolls-S32 n) refl (within_range 0x7FFFFFFF n r)
  fit_text (u32_text n text i r) = by_layer leaves.U32 is_u32 fits_of_u32 (V.U32 n) _ (plain.rolls-U32 n) refl (le-leb n 0xFFFFFFFF r)
  fit_text (s64_text n text i r) = by_layer leaves.S64 is_s64 fits_of_s64 (V.S64 n) _ (plain.rolls-S64 n) refl (within_range 0x7FFFFFFFFFFFFFFF n r)
  fit_text (u64_text n text i r) = by_layer leaves.U64 is_u64 fits_of_u64 (V.U64 n) _ (plain.rolls-U64 n) refl (le-leb n 0xFFFFFFFFFFFFFFFF r)
  fit_text (char_text c text i s) = by_layer leaves.Char is_char fits_of_char (V.Char c) _ (plain.rolls-Char c) refl (and_from _ true s refl)
  fit_text (string_text s text i u) = by_layer leaves.String is_string fits_of_string (V.String s) _ (plain.rolls-String s) refl (is_utf8-from_IsUtf8 s u)
  fit_text (record_text fields all text i) =
      let a = fit_all i in
      by_layer (types.Record fields) (is_record (map (λ (f : Field). test_of f.val_type) fields)) (fits_of_record fields) (V.Record all) _ (plain.rolls-Record all)
      (ap (λ (l : List Test). each_passes l all) (sym (tests_of_fields fields)) ∙ a.0) a.1
  fit_text (tuple_text parts all text i) =
      let a = fit_all i in
      by_layer (types.Tuple parts) (is_record (map test_of parts)) (fits_of_tuple parts) (V.Record all) _ (plain.rolls-Record all)
      (ap (λ (l : List Test). each_passes l all) (sym (tests_of_parts parts)) ∙ a.0) a.1
  fit_text (list_text element all text i f) =
      let a = fit_all i in
      by_layer (types.List element) (is_list (test_of element)) (fits_of_list element) (V.List all) _ (plain.rolls-List all) (sym (tests_of_elements element all) ∙ a.0) a.1
  fit_text (flags_text labels flags text a i f) =
      by_layer (leaves.Flags labels) (is_flags (length labels)) (fits_of_flags labels) (V.Flags flags) _ (plain.rolls-Flags flags)
      (eq-eqb (length flags) (length labels) (as_many_flags labels flags a)) refl
  fit_text (enum_text labels n label l place) =
      by_layer (leaves.Enum labels) (is_enum (length labels)) (fits_of_enum labels) (V.Variant n None) _ (plain.rolls-Variant n None)
      (lt-ltb n (length labels) (place_within labels n label place)) refl
  fit_text (case_text cases n c payload text l place there i) =
      let rest = fit_payload i in
      by_layer (types.Variant cases) (is_variant (map (λ (c : Case). payload_test c.payload) cases)) (fits_of_variant cases) (V.Variant n payload) _ (plain.rolls-Variant n payload)
      (passes_case cases n payload c there ∙ rest.0) (variant_sound n payload rest.1)
  fit_text (none_text part) =
      by_layer (types.Option part) (is_either None (Some (test_of part))) (fits_of_option part) (V.Variant 0 None) _ (plain.rolls-Variant 0 None) refl refl
  fit_text (some_text part payload text i) =
      let rest = fit_payload i in
      by_layer (types.Option part) (is_either None (Some (test_of part))) (fits_of_option part) (V.Variant 1 payload) _ (plain.rolls-Variant 1 payload) rest.0 (variant_sound 1 payload rest.1)
  fit_text (ok_text ok err payload text i) =
      let rest = fit_payload i in
      by_layer (types.Result ok err) (is_either (payload_test ok) (payload_test err)) (fits_of_result ok err) (V.Variant 0 payload) _ (plain.rolls-Variant 0 payload)
      rest.0 (variant_sound 0 payload rest.1)
  fit_text (err_text ok err payload text i) =
      let rest = fit_payload i in
      by_layer (types.Result ok err) (is_either (payload_test ok) (payload_test err)) (fits_of_result ok err) (V.Variant 1 payload) _ (plain.rolls-Variant 1 payload)
      rest.0 (variant_sound 1 payload rest.1)

  fit_payload : {t : Option ValType} {v : Option Value} {text : List ℕ} → IsPayload t v text → FitRest t v
  fit_payload no_payload = (refl, refl)
  fit_payload (payload_text t v blanks text a i) = fit_spaced i

  fit_placed : {p : Place} {v : Value} {text : List ℕ} → IsPlacedText p v text → Fit (type_of p) v
  fit_placed (bare_text t v text i) = fit_text i
  fit_placed (labelled_text label t v before between text l a b i) = fit_text i

  fit_spaced : {p : Place} {v : Value} {text : List ℕ} → IsSpacedText p v text → Fit (type_of p) v
  fit_spaced (spaced_text p v before text behind a i b) = fit_placed i

  pub fit_all : {places : List Place} {all : List Value} {text : List ℕ} → AreTexts places all text → FitAll places all
  fit_all (no_texts blanks a) = (refl, refl)
  fit_all (one_text p v text i) = one_more p [] v [] (fit_spaced i) (refl, refl)
  fit_all (more_texts p q places v w all first others i j) = one_more p (q ∷ places) v (w ∷ all) (fit_spaced i) (fit_all j)
