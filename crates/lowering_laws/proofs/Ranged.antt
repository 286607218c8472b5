-- A value of a type fits it, and is in its ranges.
use Rattle.std.proofs.Common.{◌≡◌, ◌∙◌, ◌<◌, ◌^◌, ◌&&◌, ℕ, zero, suc, Bool, true, false, List, [], ◌∷◌, map, length, Option, Some, None, refl, ap, arith}
use Rattle.std.proofs.lemmas.Bool.{eq-eqb, lt-ltb}
use Rattle.std.specs.List.{slice_get}
use Rattle.syntax_trees.specs.declared.types.ValType.{ValType, out-ValType}
use Rattle.syntax_trees.specs.declared.types.Case.{Case}
use Rattle.syntax_trees.specs.declared.types.ValType.TheOpen as F
use Rattle.syntax_trees.specs.declared.types.ValType.TheViews as types
use Rattle.syntax_trees.specs.declared.types.ValType.TheVariants as leaves
use Rattle.syntax_trees.specs.declared.value.Value.{Value, out-Value}
use Rattle.syntax_trees.specs.declared.value.Value.TheOpen as V
use Rattle.syntax_trees.specs.declared.value.Value.TheViews as values
use Rattle.syntax_trees.specs.declared.value.Value.TheVariants as plain
use Rattle.syntax_trees.specs.Fits.{Test, fits, test_of, each_passes, all_pass, payload_passes, case_passes, is_either}
use Rattle.syntax_trees.proofs.Folds.{held}
use Rattle.value_lift.proofs.Views as seen
use Rattle.lowering_laws.specs.LiftedValues.{ValuesOfTypesFit, ValuesOfTypesAreInRange}
use Rattle.lowering_laws.specs.Values.{InRange, AllInRange, bool_in, s8_in, u8_in, s16_in, u16_in, s32_in, u32_in, s64_in, u64_in, char_in, own_in, borrow_in, stream_in, future_in, string_in, list_in, record_in, flags_in, case_in, payload_in, none_in, more_in, IsOf, AllAre, EachIs, PayloadIs, bool_is, s8_is, u8_is, s16_is, u16_is, s32_is, u32_is, s64_is, u64_is, char_is, own_is, borrow_is, stream_is, future_is, string_is, list_is, record_is, tuple_is, flags_are, case_is, enum_is, none_is, some_is, ok_is, err_is, none_are, more_are, no_types, more_types, no_payload_is, payload_is}
use Rattle.lowering_laws.proofs.Fitted.{Layer, tests_in, passes, fits_is, field_tests, out_bool, out_s8, out_u8, out_s16, out_u16, out_s32, out_u32, out_s64, out_u64, out_char, out_own, out_borrow, out_stream, out_future, out_string, out_flags, out_list, out_record, out_variant}

-- in its ranges
mutual
  pub ranged : {t : ValType} {v : Value} → IsOf t v → InRange v
  ranged (bool_is b) = bool_in b
  ranged (s8_is n f) = s8_in n f
  ranged (u8_is n f) = u8_in n f
  ranged (s16_is n f) = s16_in n f
  ranged (u16_is n f) = u16_in n f
  ranged (s32_is n f) = s32_in n f
  ranged (u32_is n f) = u32_in n f
  ranged (s64_is n f) = s64_in n f
  ranged (u64_is n f) = u64_in n f
  ranged (char_is c f) = char_in c f
  ranged (own_is resource n f) = own_in (record { resource = resource; rep = n }) f
  ranged (borrow_is resource n f) = borrow_in (record { resource = resource; rep = n }) f
  ranged (stream_is element n f) = stream_in n f
  ranged (future_is element n f) = future_in n f
  ranged (string_is text f) = string_in text f
  ranged (list_is element all are) = list_in all (all_ranged are)
  ranged (record_is fields all are) = record_in all (each_ranged are)
  ranged (tuple_is parts all are) = record_in all (each_ranged are)
  ranged (flags_are labels flags many low) = flags_in flags low
  ranged (case_is n cases c payload low there is) = payload_ranged is n low
  ranged (enum_is n labels low few) = case_in n low
  ranged (none_is part) = case_in 0 (omega arith)
  ranged (some_is part payload is) = payload_ranged is 1 (omega arith)
  ranged (ok_is ok err payload is) = payload_ranged is 0 (omega arith)
  ranged (err_is ok err payload is) = payload_ranged is 1 (omega arith)

  pub all_ranged : {element : ValType} {all : List Value} → AllAre element all → AllInRange all
  all_ranged (none_are element) = none_in
  all_ranged (more_are element v all is are) = more_in v all (ranged is) (all_ranged are)

  each_ranged : {types : List ValType} {all : List Value} → EachIs types all → AllInRange all
  each_ranged no_types = none_in
  each_ranged (more_types t types v all is are) = more_in v all (ranged is) (each_ranged are)

  payload_ranged : {p : Option ValType} {payload : Option Value} → PayloadIs p payload → (n : ℕ) → n < 2 ^ 32 → InRange (values.Variant n payload)
  payload_ranged no_payload_is n low = case_in n low
  payload_ranged (payload_is t v is) n low = payload_in n v low (ranged is)

-- It passes the test of its type, by the outer layers of both.
fit_by : (t : ValType) (v : Value) (y : Layer) (o : V.Value-F Value) → out-ValType t ≡ y → out-Value v ≡ o → passes (tests_in y) o ≡ true → fits v t ≡ true
fit_by t v y o e f h = fits_is t v ∙ ap (λ (y : Layer). passes (tests_in y) (out-Value v)) e ∙ ap (λ (o : V.Value-F Value). passes (tests_in y) o) f ∙ h

both : (a b : Bool) → a ≡ true → b ≡ true → (a && b) ≡ true
both true b h i = i
both false b h i = cc

case_fits : (cases : List Case) (n : ℕ) (c : Case) (payload : Option Value) → slice_get cases n ≡ Some c → payload_passes (held test_of c.payload) payload ≡ true
    → case_passes (slice_get (map (λ (c : Case). held test_of c.payload) cases) n) payload ≡ true
case_fits [] n c payload e h = cc
case_fits (d ∷ cases) zero c payload e h =
    let f : d ≡ c = cc in
    ap (λ (x : Case). payload_passes (held test_of x.payload) payload) f ∙ h
case_fits (d ∷ cases) (suc n) c payload e h = case_fits cases n c payload e h

either_fits : (n : ℕ) (payload : Option Value) (ok err : Option ValType) → is_either (held test_of ok) (held test_of err) (V.Variant n payload) ≡ true
    → passes (tests_in (F.Result ok err)) (V.Variant n payload) ≡ true
either_fits n payload None None h = h
either_fits n payload None (Some e) h = h
either_fits n payload (Some o) None h = h
either_fits n payload (Some o) (Some e) h = h

mutual
  pub fit : {t : ValType} {v : Value} → IsOf t v → fits v t ≡ true
  fit (bool_is b) = fit_by leaves.Bool (plain.Bool b) F.Bool (V.Bool b) seen.out_bool (out_bool b) refl
  fit (s8_is n f) = fit_by leaves.S8 (plain.S8 n) F.S8 (V.S8 n) seen.out_s8 (out_s8 n) refl
  fit (u8_is n f) = fit_by leaves.U8 (plain.U8 n) F.U8 (V.U8 n) seen.out_u8 (out_u8 n) refl
  fit (s16_is n f) = fit_by leaves.S16 (plain.S16 n) F.S16 (V.S16 n) seen.out_s16 (out_s16 n) refl
  fit (u16_is n f) = fit_by leaves.U16 (plain.U16 n) F.U16 (V.U16 n) seen.out_u16 (out_u16 n) refl
  fit (s32_is n f) = fit_by leaves.S32 (plain.S32 n) F.S32 (V.S32 n) seen.out_s32 (out_s32 n) refl
  fit (u32_is n f) = fit_by leaves.U32 (plain.U32 n) F.U32 (V.U32 n) seen.out_u32 (out_u32 n) refl
  fit (s64_is n f) = fit_by leaves.S64 (plain.S64 n) F.S64 (V.S64 n) seen.out_s64 (out_s64 n) refl
  fit (u64_is n f) = fit_by leaves.U64 (plain.U64 n) F.U64 (V.U64 n) seen.out_u64 (out_u64 n) refl
  fit (char_is c f) = fit_by leaves.Char (plain.Char c) F.Char (V.Char c) seen.out_char (out_char c) refl
  fit (own_is resource n f) = fit_by (leaves.Own resource) (plain.Own (record { resource = resource; rep = n })) (F.Own resource) (V.Own (record { resource = resource; rep = n })) (seen.out_own resource) (out_own (record { resource = resource; rep = n })) (eq-eqb resource resource refl)
  fit (borrow_is resource n f) = fit_by (leaves.Borrow resource) (plain.Borrow (record { resource = resource; rep = n })) (F.Borrow resource) (V.Borrow (record { resource = resource; rep = n })) (seen.out_borrow resource) (out_borrow (record { resource = resource; rep = n })) (eq-eqb resource resource refl)
  fit (stream_is element n f) = fit_by (types.Stream element) (plain.Stream n) (F.Stream element) (V.Stream n) (seen.out_stream element) (out_stream n) refl
  fit (future_is element n f) = fit_by (types.Future element) (plain.Future n) (F.Future element) (V.Future n) (seen.out_future element) (out_future n) refl
  fit (string_is text f) = fit_by leaves.String (plain.String text) F.String (V.String text) seen.out_string (out_string text) refl
  fit (list_is element all are) = fit_by (types.List element) (values.List all) (F.List element) (V.List all) (seen.out_list element) (out_list all) (all_fit are)
  fit (record_is fields all are) =
      fit_by (types.Record fields) (values.Record all) (F.Record fields) (V.Record all) (seen.out_record fields) (out_record all)
      (ap (λ (ts : List Test). each_passes ts all) (field_tests fields) ∙ each_fit are)
  fit (tuple_is parts all are) = fit_by (types.Tuple parts) (values.Record all) (F.Tuple parts) (V.Record all) (seen.out_tuple parts) (out_record all) (each_fit are)
  fit (flags_are labels flags many low) =
      fit_by (leaves.Flags labels) (plain.Flags flags) (F.Flags labels) (V.Flags flags) (seen.out_flags labels) (out_flags flags) (eq-eqb (length flags) (length labels) many)
  fit (case_is n cases c payload low there is) =
      fit_by (types.Variant cases) (values.Variant n payload) (F.Variant cases) (V.Variant n payload) (seen.out_variant cases) (out_variant n payload)
      (case_fits cases n c payload there (payload_fit is))
  fit (enum_is n labels low few) =
      fit_by (leaves.Enum labels) (values.Variant n None) (F.Enum labels) (V.Variant n None) (seen.out_enum labels) (out_variant n None) (lt-ltb n (length labels) few)
  fit (none_is part) = fit_by (types.Option part) (values.Variant 0 None) (F.Option part) (V.Variant 0 None) (seen.out_option part) (out_variant 0 None) refl
  fit (some_is part payload of) = fit_by (types.Option part) (values.Variant 1 payload) (F.Option part) (V.Variant 1 payload) (seen.out_option part) (out_variant 1 payload) (payload_fit of)
  fit (ok_is ok err payload of) =
      fit_by (types.Result ok err) (values.Variant 0 payload) (F.Result ok err) (V.Variant 0 payload) (seen.out_result ok err) (out_variant 0 payload) (either_fits 0 payload ok err (payload_fit of))
  fit (err_is ok err payload of) =
      fit_by (types.Result ok err) (values.Variant 1 payload) (F.Result ok err) (V.Variant 1 payload) (seen.out_result ok err) (out_variant 1 payload) (either_fits 1 payload ok err (payload_fit of))

  all_fit : {element : ValType} {all : List Value} → AllAre element all → all_pass (test_of element) all ≡ true
  all_fit (none_are element) = refl
  all_fit (more_are element v all of are) = both (test_of element v) (all_pass (test_of element) all) (fit of) (all_fit are)

  each_fit : {types : List ValType} {all : List Value} → EachIs types all → each_passes (map test_of types) all ≡ true
  each_fit no_types = refl
  each_fit (more_types t types v all of are) = both (test_of t v) (each_passes (map test_of types) all) (fit of) (each_fit are)

  payload_fit : {p : Option ValType} {payload : Option Value} → PayloadIs p payload → payload_passes (held test_of p) payload ≡ true
  payload_fit no_payload_is = refl
  payload_fit (payload_is t v of) = fit of

pub values_of_types_fit : ValuesOfTypesFit
values_of_types_fit type v of = (fit of, ranged of)

pub values_of_types_are_in_range : ValuesOfTypesAreInRange
values_of_types_are_in_range type all are = all_ranged are
