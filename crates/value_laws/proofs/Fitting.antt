-- A value that stands somewhere fits its type, also where each index in it is replaced by what it names.
use Rattle.std.proofs.Common.{◌≡◌, ◌∙◌, ◌<◌, ◌/◌, ◌%◌, ◌^◌, ◌&&◌, ℕ, ℤ, zero, suc, Bool, true, false, List, [], ◌∷◌, map, length, Option, Some, None, refl, ap, sym}
use Rattle.std.proofs.lemmas.Bool.{eq-eqb, lt-ltb}
use Rattle.std.specs.List.{slice_get}
use Rattle.std.specs.Int.{w8, w16, w32, w64, cast_signed}
use Rattle.std.specs.Option.{option_map}
use Rattle.syntax_trees.specs.declared.types.ValType.{ValType, out-ValType}
use Rattle.syntax_trees.specs.declared.types.Case.{Case}
use Rattle.syntax_trees.specs.declared.types.Field.{Field}
use Rattle.syntax_trees.specs.declared.types.ValType.TheOpen as F
use Rattle.syntax_trees.specs.declared.types.ValType.TheViews as types
use Rattle.syntax_trees.specs.declared.types.ValType.TheVariants as leaves
use Rattle.syntax_trees.specs.declared.value.Handle.{Handle}
use Rattle.syntax_trees.specs.declared.value.Value.{Value, out-Value, roll-Value}
use Rattle.syntax_trees.specs.declared.value.Value.TheOpen as V
use Rattle.syntax_trees.specs.declared.value.Value.TheViews as values
use Rattle.syntax_trees.specs.declared.value.Value.TheVariants as plain
use Rattle.syntax_trees.specs.declared.value.Value.TheFolds.{map-Value, fold-roll-Value}
use Rattle.syntax_trees.specs.Fits.{Test, fits, test_of, each_passes, all_pass, payload_passes, case_passes, is_either}
use Rattle.syntax_trees.proofs.Folds.{held}
use Rattle.laid_types.specs.Layout.{bits_size}
use Rattle.value_lift.specs.Bytes.{number, bytes_at, width_of}
use Rattle.value_lift.specs.Settled.{carried_step, carried}
use Rattle.value_lift.specs.Standing.{AreBits, Stands, AreElements, AreFields, IsPayload, false_stands, true_stands, s8_stands, u8_stands, s16_stands, u16_stands, s32_stands, u32_stands, s64_stands, u64_stands, char_stands, own_stands, borrow_stands, stream_stands, future_stands, string_stands, list_stands, record_stands, tuple_stands, flags_stand, case_stands, enum_stands, none_stands, some_stands, ok_stands, err_stands, no_elements, more_elements, no_fields, more_fields, no_payload, payload_stands}
use Rattle.value_lift.specs.WordStanding.{FlatOf, AreFlat, IsFlatPayload, false_flat, true_flat, s8_flat, u8_flat, s16_flat, u16_flat, s32_flat, u32_flat, s64_flat, u64_flat, char_flat, own_flat, borrow_flat, stream_flat, future_flat, string_flat, list_flat, record_flat, tuple_flat, flags_flat, case_flat, enum_flat, none_flat, some_flat, ok_flat, err_flat, no_flat, more_flat, no_flat_payload, flat_payload_of}
use Rattle.value_lift.proofs.Carried.{carried_list, carried_record, carried_variant}
use Rattle.value_lift.proofs.Views as seen
use Rattle.lowering_laws.proofs.Fitted.{Layer, tests_in, passes, fits_is, field_tests, out_bool, out_s8, out_u8, out_s16, out_u16, out_s32, out_u32, out_s64, out_u64, out_char, out_own, out_borrow, out_stream, out_future, out_string, out_flags, out_list, out_record, out_variant}

-- Flags are as many as their labels.
many_flags : (labels : List (List ℕ)) (n : ℕ) (flags : List Bool) → AreBits labels n flags → length flags ≡ length labels
many_flags [] n [] a = refl
many_flags [] n (f ∷ flags) a = absurd a
many_flags (l ∷ labels) n [] a = absurd a
many_flags (l ∷ labels) n (true ∷ flags) a = ap suc (many_flags labels (n / 2) flags a.1)
many_flags (l ∷ labels) n (false ∷ flags) a = ap suc (many_flags labels (n / 2) flags a.1)

pub both : (a b : Bool) → a ≡ true → b ≡ true → (a && b) ≡ true
both true b h i = i
both false b h i = cc

-- Payloads, by the cases of the type.
case_fits : (cases : List Case) (n : ℕ) (c : Case) (payload : Option Value) → slice_get cases n ≡ Some c → payload_passes (held test_of c.payload) payload ≡ true
    → case_passes (slice_get (map (λ (c : Case). held test_of c.payload) cases) n) payload ≡ true
case_fits [] n c payload e h = cc
case_fits (d ∷ cases) zero c payload e h =
    let f : d ≡ c = cc in
    ap (λ (x : Case). payload_passes (held test_of x.payload) payload) f ∙ h
case_fits (d ∷ cases) (suc n) c payload e h = case_fits cases n c payload e h

either_fits : (n : ℕ) (payload : Option Value) (ok err : Option ValType) → is_either (held test_of ok) (held test_of err) (V.Variant n payload) ≡ true
    → passes (tests_in (F.Result ok err)) (V.Variant n payload) ≡ true
either_fits n payload None None h = h
either_fits n payload None (Some e) h = h
either_fits n payload (Some o) None h = h
either_fits n payload (Some o) (Some e) h = h

module _ (names : ℕ → ℕ) where
  abbrev pub Fits : ValType → Value → Type 0
  Fits t v = fits (carried names v) t ≡ true

  abbrev pub AllFit : ValType → List Value → Type 0
  AllFit element all = all_pass (test_of element) (map (carried names) all) ≡ true

  abbrev EachFits : List ValType → List Value → Type 0
  EachFits types all = each_passes (map test_of types) (map (carried names) all) ≡ true

  abbrev PayloadFits : Option ValType → Option Value → Type 0
  PayloadFits p payload = payload_passes (held test_of p) (option_map (carried names) payload) ≡ true

  -- by the outer layers of the type and of the value
  fit_by : (t : ValType) (v w : Value) (y : Layer) (o : V.Value-F Value) → carried names v ≡ w → out-ValType t ≡ y → out-Value w ≡ o → passes (tests_in y) o ≡ true → Fits t v
  fit_by t v w y o c e f h =
      ap (λ (x : Value). fits x t) c
      ∙ fits_is t w
      ∙ ap (λ (y : Layer). passes (tests_in y) (out-Value w)) e
      ∙ ap (λ (o : V.Value-F Value). passes (tests_in y) o) f
      ∙ h

  carried_by : (v w : Value) (o : V.Value-F Value) → roll-Value o ≡ v → carried_step names (map-Value Value Value (carried names) o) ≡ w → carried names v ≡ w
  carried_by v w o e f = ap (carried names) (sym e) ∙ fold-roll-Value Value (carried_step names) o ∙ f

  -- Values without parts and without an index stay.
  leaf : (t : ValType) (v : Value) (y : Layer) (o : V.Value-F Value) → roll-Value o ≡ v → carried_step names (map-Value Value Value (carried names) o) ≡ roll-Value o → out-ValType t ≡ y
      → out-Value v ≡ o → passes (tests_in y) o ≡ true → Fits t v
  leaf t v y o e same f g h = fit_by t v v y o (carried_by v v o e (same ∙ e)) f g h

  bool_fits : (b : Bool) → Fits leaves.Bool (plain.Bool b)
  bool_fits b = leaf leaves.Bool (plain.Bool b) F.Bool (V.Bool b) (plain.rolls-Bool b) refl seen.out_bool (out_bool b) refl

  s8_fits : (n : ℤ) → Fits leaves.S8 (plain.S8 n)
  s8_fits n = leaf leaves.S8 (plain.S8 n) F.S8 (V.S8 n) (plain.rolls-S8 n) refl seen.out_s8 (out_s8 n) refl

  u8_fits : (n : ℕ) → Fits leaves.U8 (plain.U8 n)
  u8_fits n = leaf leaves.U8 (plain.U8 n) F.U8 (V.U8 n) (plain.rolls-U8 n) refl seen.out_u8 (out_u8 n) refl

  s16_fits : (n : ℤ) → Fits leaves.S16 (plain.S16 n)
  s16_fits n = leaf leaves.S16 (plain.S16 n) F.S16 (V.S16 n) (plain.rolls-S16 n) refl seen.out_s16 (out_s16 n) refl

  u16_fits : (n : ℕ) → Fits leaves.U16 (plain.U16 n)
  u16_fits n = leaf leaves.U16 (plain.U16 n) F.U16 (V.U16 n) (plain.rolls-U16 n) refl seen.out_u16 (out_u16 n) refl

  s32_fits : (n : ℤ) → Fits leaves.S32 (plain.S32 n)
  s32_fits n = leaf leaves.S32 (plain.S32 n) F.S32 (V.S32 n) (plain.rolls-S32 n) refl seen.out_s32 (out_s32 n) refl

  u32_fits : (n : ℕ) → Fits leaves.U32 (plain.U32 n)
  u32_fits n = leaf leaves.U32 (plain.U32 n) F.U32 (V.U32 n) (plain.rolls-U32 n) refl seen.out_u32 (out_u32 n) refl

  s64_fits : (n : ℤ) → Fits leaves.S64 (plain.S64 n)
  s64_fits n = leaf leaves.S64 (plain.S64 n) F.S64 (V.S64 n) (plain.rolls-S64 n) refl seen.out_s64 (out_s64 n) refl

  u64_fits : (n : ℕ) → Fits leaves.U64 (plain.U64 n)
  u64_fits n = leaf leaves.U64 (plain.U64 n) F.U64 (V.U64 n) (plain.rolls-U64 n) refl seen.out_u64 (out_u64 n) refl

  char_fits : (n : ℕ) → Fits leaves.Char (plain.Char n)
  char_fits n = leaf leaves.Char (plain.Char n) F.Char (V.Char n) (plain.rolls-Char n) refl seen.out_char (out_char n) refl

  string_fits : (text : List ℕ) → Fits leaves.String (plain.String text)
  string_fits text = leaf leaves.String (plain.String text) F.String (V.String text) (plain.rolls-String text) refl seen.out_string (out_string text) refl

  flags_fit : (labels : List (List ℕ)) (flags : List Bool) → length flags ≡ length labels → Fits (leaves.Flags labels) (plain.Flags flags)
  flags_fit labels flags many =
      leaf (leaves.Flags labels) (plain.Flags flags) (F.Flags labels) (V.Flags flags) (plain.rolls-Flags flags) refl (seen.out_flags labels) (out_flags flags)
      (eq-eqb (length flags) (length labels) many)

  -- What is told by an index is of the resource, or an end, whatever it names.
  abbrev handle : ℕ → ℕ → Handle
  handle resource n = record { resource = resource; rep = n }

  own_fits : (resource n : ℕ) → Fits (leaves.Own resource) (plain.Own (handle resource n))
  own_fits resource n =
      fit_by (leaves.Own resource) (plain.Own (handle resource n)) (plain.Own (handle resource (names n))) (F.Own resource) (V.Own (handle resource (names n)))
      (carried_by (plain.Own (handle resource n)) (plain.Own (handle resource (names n))) (V.Own (handle resource n)) (plain.rolls-Own (handle resource n)) refl) (seen.out_own resource)
      (out_own (handle resource (names n))) (eq-eqb resource resource refl)

  borrow_fits : (resource n : ℕ) → Fits (leaves.Borrow resource) (plain.Borrow (handle resource n))
  borrow_fits resource n =
      fit_by (leaves.Borrow resource) (plain.Borrow (handle resource n)) (plain.Borrow (handle resource (names n))) (F.Borrow resource) (V.Borrow (handle resource (names n)))
      (carried_by (plain.Borrow (handle resource n)) (plain.Borrow (handle resource (names n))) (V.Borrow (handle resource n)) (plain.rolls-Borrow (handle resource n)) refl) (seen.out_borrow resource)
      (out_borrow (handle resource (names n))) (eq-eqb resource resource refl)

  stream_fits : (element : Option ValType) (n : ℕ) → Fits (types.Stream element) (plain.Stream n)
  stream_fits element n =
      fit_by (types.Stream element) (plain.Stream n) (plain.Stream (names n)) (F.Stream element) (V.Stream (names n))
      (carried_by (plain.Stream n) (plain.Stream (names n)) (V.Stream n) (plain.rolls-Stream n) refl) (seen.out_stream element) (out_stream (names n)) refl

  future_fits : (element : Option ValType) (n : ℕ) → Fits (types.Future element) (plain.Future n)
  future_fits element n =
      fit_by (types.Future element) (plain.Future n) (plain.Future (names n)) (F.Future element) (V.Future (names n))
      (carried_by (plain.Future n) (plain.Future (names n)) (V.Future n) (plain.rolls-Future n) refl) (seen.out_future element) (out_future (names n)) refl

  -- Values with parts, by their parts.
  list_fits : (element : ValType) (all : List Value) → AllFit element all → Fits (types.List element) (values.List all)
  list_fits element all h =
      fit_by (types.List element) (values.List all) (values.List (map (carried names) all)) (F.List element) (V.List (map (carried names) all)) (carried_list names all) (seen.out_list element)
      (out_list (map (carried names) all)) h

  record_fits : (fields : List Field) (all : List Value) → EachFits (map (λ (f : Field). f.val_type) fields) all → Fits (types.Record fields) (values.Record all)
  record_fits fields all h =
      fit_by (types.Record fields) (values.Record all) (values.Record (map (carried names) all)) (F.Record fields) (V.Record (map (carried names) all)) (carried_record names all) (seen.out_record fields)
      (out_record (map (carried names) all)) (ap (λ (ts : List Test). each_passes ts (map (carried names) all)) (field_tests fields) ∙ h)

  tuple_fits : (parts : List ValType) (all : List Value) → EachFits parts all → Fits (types.Tuple parts) (values.Record all)
  tuple_fits parts all h =
      fit_by (types.Tuple parts) (values.Record all) (values.Record (map (carried names) all)) (F.Tuple parts) (V.Record (map (carried names) all)) (carried_record names all) (seen.out_tuple parts)
      (out_record (map (carried names) all)) h

  variant_fits : (t : ValType) (y : Layer) (n : ℕ) (payload : Option Value) → out-ValType t ≡ y → passes (tests_in y) (V.Variant n (option_map (carried names) payload)) ≡ true
      → Fits t (values.Variant n payload)
  variant_fits t y n payload e h =
      fit_by t (values.Variant n payload) (values.Variant n (option_map (carried names) payload)) y (V.Variant n (option_map (carried names) payload)) (carried_variant names n payload) e
      (out_variant n (option_map (carried names) payload)) h

  of_case : (n : ℕ) (cases : List Case) (c : Case) (payload : Option Value) → slice_get cases n ≡ Some c → PayloadFits c.payload payload → Fits (types.Variant cases) (values.Variant n payload)
  of_case n cases c payload there h =
      variant_fits (types.Variant cases) (F.Variant cases) n payload (seen.out_variant cases) (case_fits cases n c (option_map (carried names) payload) there h)

  of_label : (n : ℕ) (labels : List (List ℕ)) → n < length labels → Fits (leaves.Enum labels) (values.Variant n None)
  of_label n labels few = variant_fits (leaves.Enum labels) (F.Enum labels) n None (seen.out_enum labels) (lt-ltb n (length labels) few)

  of_none : (part : ValType) → Fits (types.Option part) (values.Variant 0 None)
  of_none part = variant_fits (types.Option part) (F.Option part) 0 None (seen.out_option part) refl

  of_some : (part : ValType) (payload : Option Value) → PayloadFits (Some part) payload → Fits (types.Option part) (values.Variant 1 payload)
  of_some part payload h = variant_fits (types.Option part) (F.Option part) 1 payload (seen.out_option part) h

  of_ok : (ok err : Option ValType) (payload : Option Value) → PayloadFits ok payload → Fits (types.Result ok err) (values.Variant 0 payload)
  of_ok ok err payload h = variant_fits (types.Result ok err) (F.Result ok err) 0 payload (seen.out_result ok err) (either_fits 0 (option_map (carried names) payload) ok err h)

  of_err : (ok err : Option ValType) (payload : Option Value) → PayloadFits err payload → Fits (types.Result ok err) (values.Variant 1 payload)
  of_err ok err payload h = variant_fits (types.Result ok err) (F.Result ok err) 1 payload (seen.out_result ok err) (either_fits 1 (option_map (carried names) payload) ok err h)

  mutual
    pub standing_fits : {memory : List ℕ} {place : ℕ} {t : ValType} {v : Value} → Stands memory place t v → Fits t v
    standing_fits (false_stands place e) = bool_fits false
    standing_fits (true_stands place e) = bool_fits true
    standing_fits {memory = m} (s8_stands place) = s8_fits (cast_signed w8 (number w8 place m))
    standing_fits {memory = m} (u8_stands place) = u8_fits (number w8 place m)
    standing_fits {memory = m} (s16_stands place) = s16_fits (cast_signed w16 (number w16 place m))
    standing_fits {memory = m} (u16_stands place) = u16_fits (number w16 place m)
    standing_fits {memory = m} (s32_stands place) = s32_fits (cast_signed w32 (number w32 place m))
    standing_fits {memory = m} (u32_stands place) = u32_fits (number w32 place m)
    standing_fits {memory = m} (s64_stands place) = s64_fits (cast_signed w64 (number w64 place m))
    standing_fits {memory = m} (u64_stands place) = u64_fits (number w64 place m)
    standing_fits {memory = m} (char_stands place h) = char_fits (number w32 place m)
    standing_fits {memory = m} (own_stands place resource) = own_fits resource (number w32 place m)
    standing_fits {memory = m} (borrow_stands place resource) = borrow_fits resource (number w32 place m)
    standing_fits {memory = m} (stream_stands place element) = stream_fits element (number w32 place m)
    standing_fits {memory = m} (future_stands place element) = future_fits element (number w32 place m)
    standing_fits {memory = m} (string_stands place at count e f inside utf8) = string_fits (bytes_at at count m)
    standing_fits (list_stands place at element all e f aligned inside are) = list_fits element all (elements_fit are)
    standing_fits (record_stands place fields all are) = record_fits fields all (fields_fit are)
    standing_fits (tuple_stands place parts all are) = tuple_fits parts all (fields_fit are)
    standing_fits {memory = m} (flags_stand place labels flags a) = flags_fit labels flags (many_flags labels (number (width_of (bits_size (length labels))) place m) flags a)
    standing_fits (case_stands place n cases c payload e there p) = of_case n cases c payload there (payload_fits p)
    standing_fits (enum_stands place n labels e few) = of_label n labels few
    standing_fits (none_stands place part e) = of_none part
    standing_fits (some_stands place part payload e p) = of_some part payload (payload_fits p)
    standing_fits (ok_stands place ok err payload e p) = of_ok ok err payload (payload_fits p)
    standing_fits (err_stands place ok err payload e p) = of_err ok err payload (payload_fits p)

    pub elements_fit : {memory : List ℕ} {at : ℕ} {element : ValType} {all : List Value} → AreElements memory at element all → AllFit element all
    elements_fit (no_elements at element) = refl
    elements_fit (more_elements at element v all s are) =
        both (test_of element (carried names v)) (all_pass (test_of element) (map (carried names) all)) (standing_fits s) (elements_fit are)

    fields_fit : {memory : List ℕ} {place end : ℕ} {types : List ValType} {all : List Value} → AreFields memory place end types all → EachFits types all
    fields_fit (no_fields place end) = refl
    fields_fit (more_fields place end t types v all s are) =
        both (test_of t (carried names v)) (each_passes (map test_of types) (map (carried names) all)) (standing_fits s) (fields_fit are)

    payload_fits : {memory : List ℕ} {place : ℕ} {p : Option ValType} {payload : Option Value} → IsPayload memory place p payload → PayloadFits p payload
    payload_fits (no_payload place) = refl
    payload_fits (payload_stands place t v s) = standing_fits s

  mutual
    pub flat_fits : {memory : List ℕ} {t : ValType} {v : Value} {words : List ℕ} → FlatOf memory t v words → Fits t v
    flat_fits false_flat = bool_fits false
    flat_fits (true_flat w n) = bool_fits true
    flat_fits (s8_flat w) = s8_fits (cast_signed w8 (w % 2 ^ 8))
    flat_fits (u8_flat w) = u8_fits (w % 2 ^ 8)
    flat_fits (s16_flat w) = s16_fits (cast_signed w16 (w % 2 ^ 16))
    flat_fits (u16_flat w) = u16_fits (w % 2 ^ 16)
    flat_fits (s32_flat w) = s32_fits (cast_signed w32 w)
    flat_fits (u32_flat w) = u32_fits w
    flat_fits (s64_flat w) = s64_fits (cast_signed w64 w)
    flat_fits (u64_flat w) = u64_fits w
    flat_fits (char_flat w h) = char_fits w
    flat_fits (own_flat resource w) = own_fits resource w
    flat_fits (borrow_flat resource w) = borrow_fits resource w
    flat_fits (stream_flat element w) = stream_fits element w
    flat_fits (future_flat element w) = future_fits element w
    flat_fits {memory = m} (string_flat at count inside utf8) = string_fits (bytes_at at count m)
    flat_fits (list_flat at element all aligned inside are) = list_fits element all (elements_fit are)
    flat_fits (record_flat fields all words are) = record_fits fields all (row_fits are)
    flat_fits (tuple_flat parts all words are) = tuple_fits parts all (row_fits are)
    flat_fits (flags_flat labels flags w a) = flags_fit labels flags (many_flags labels w flags a)
    flat_fits (case_flat n cases c payload words there p) = of_case n cases c payload there (rest_fits p)
    flat_fits (enum_flat n labels few) = of_label n labels few
    flat_fits (none_flat part words) = of_none part
    flat_fits (some_flat part payload words p) = of_some part payload (rest_fits p)
    flat_fits (ok_flat ok err payload words p) = of_ok ok err payload (rest_fits p)
    flat_fits (err_flat ok err payload words p) = of_err ok err payload (rest_fits p)

    row_fits : {memory : List ℕ} {types : List ValType} {all : List Value} {words : List ℕ} → AreFlat memory types all words → EachFits types all
    row_fits no_flat = refl
    row_fits (more_flat t types v all words others many s are) =
        both (test_of t (carried names v)) (each_passes (map test_of types) (map (carried names) all)) (flat_fits s) (row_fits are)

    rest_fits : {memory : List ℕ} {p : Option ValType} {payload : Option Value} {words : List ℕ} → IsFlatPayload memory p payload words → PayloadFits p payload
    rest_fits (no_flat_payload words) = refl
    rest_fits (flat_payload_of t v words s) = flat_fits s
