-- The core values that every value of a type is lowered into stand for it.
use Rattle.std.proofs.Common.{◌≡◌, ◌∙◌, ◌<◌, ℕ, List, [], ◌∷◌, ◌++◌, map, length, Option, Some, None, refl, ap, sym, subst, arith, append-nil}
use Rattle.syntax_trees.specs.declared.types.ValType.{ValType}
use Rattle.syntax_trees.specs.declared.types.Case.{Case}
use Rattle.syntax_trees.specs.declared.types.Field.{Field}
use Rattle.syntax_trees.specs.declared.types.ValType.TheOpen as F
use Rattle.syntax_trees.specs.declared.types.ValType.TheViews as types
use Rattle.syntax_trees.specs.declared.types.ValType.TheVariants as leaves
use Rattle.syntax_trees.specs.declared.value.Value.{Value}
use Rattle.syntax_trees.specs.declared.value.Value.TheViews as values
use Rattle.syntax_trees.specs.declared.core_type.CoreType.{CoreType}
use Rattle.syntax_trees.specs.declared.core_type.CoreType.TheVariants.{I32}
use Rattle.syntax_trees.specs.Flat.{flat, flat_step, flat_payload, all_of}
use Rattle.value_lower.specs.Lowering.{lowered, flat_words, field_words, payload_words}
use Rattle.value_lift.specs.Stored.{IsFlattened}
use Rattle.value_lift.specs.WordStanding.{AreWords, FlatOf, AreFlat, IsFlatPayload, no_flat, more_flat, no_flat_payload, flat_payload_of, record_flat, tuple_flat, case_flat, enum_flat, none_flat, some_flat, ok_flat, err_flat}
use Rattle.value_lift.proofs.Equations.{flat_is, flats_in}
use Rattle.value_lift.proofs.Stood.{parts_of_record, parts_of_tuple, case_part}
use Rattle.value_lift.proofs.Views.{out_variant, out_enum, out_option, out_result}
use Rattle.value_lift.proofs.Wrapped.{words_many}
use Rattle.value_lift.proofs.WordStood.{flat_of_record, flat_of_tuple}
use Rattle.lowering_laws.specs.Values.{IsOf, EachIs, PayloadIs, bool_is, s8_is, u8_is, s16_is, u16_is, s32_is, u32_is, s64_is, u64_is, char_is, own_is, borrow_is, stream_is, future_is, string_is, list_is, record_is, tuple_is, flags_are, case_is, enum_is, none_is, some_is, ok_is, err_is, no_types, more_types, no_payload_is, payload_is}
use Rattle.lowering_laws.proofs.Numbers.{scalar_low}
use Rattle.lowering_laws.proofs.LoweredWords.{words_now, words_on, are_append, no_words, wrapped_filled}
use Rattle.lowering_laws.proofs.Sounding.{elements_go}
use Rattle.lowering_laws.proofs.WordsByKind.{Flat, FieldsFlat, PayloadFlat, bool_flat, s8_lowered, u8_lowered, s16_lowered, u16_lowered, s32_lowered, u32_lowered, s64_lowered, u64_lowered, char_lowered, own_lowered, borrow_lowered, stream_lowered, future_lowered, flags_lowered, string_lowered, list_lowered, row_lowered, case_lowered}

abbrev somes : List ValType → List (Option ValType)
somes types = map (λ (t : ValType). Some t) types

abbrev AreRow : List ValType → List Value → List ℕ → List ℕ → Type 0
AreRow types all ws m = AreWords (all_of (map flat types)) ws × AreFlat m types all ws

no_fields_flat : FieldsFlat [] []
no_fields_flat = words_now (field_words [] []) (AreRow [] []) [] (λ before K. ap K (sym (append-nil before))) (λ m. (tt, no_flat))

more_fields_flat : (t : ValType) (types : List ValType) (v : Value) (all : List Value) → Flat t v → FieldsFlat types all → FieldsFlat (t ∷ types) (v ∷ all)
more_fields_flat t types v all first rest =
    words_on (flat_words t v) (field_words (somes types) (map lowered all)) (λ ws m. IsFlattened m t v ws) (AreRow types all) (AreRow (t ∷ types) (v ∷ all)) first rest
    (λ m ws vs f h. (are_append (flat t) (all_of (map flat types)) ws vs f.typed h.0, more_flat t types v all ws vs (words_many (flat t) ws f.typed) f.stands h.1))

abbrev IsPaid : Option ValType → Option Value → List ℕ → List ℕ → Type 0
IsPaid p payload ws m = AreWords (flat_payload p) ws × ((zs : List ℕ) → IsFlatPayload m p payload (ws ++ zs))

no_payload_flat : PayloadFlat None None
no_payload_flat = words_now (payload_words None None) (IsPaid None None) [] (λ before K. ap K (sym (append-nil before))) (λ m. (tt, λ zs. no_flat_payload zs))

payload_flat : (t : ValType) (v : Value) → Flat t v → PayloadFlat (Some t) (Some v)
payload_flat t v goes =
    words_on (flat_words t v) (λ before K. K before) (λ ws m. IsFlattened m t v ws) (λ ws m. ws ≡ []) (IsPaid (Some t) (Some v)) goes
    (words_now (λ before K. K before) (λ ws m. ws ≡ []) [] (λ before K. ap K (sym (append-nil before))) (λ m. refl))
    (λ m ws vs f e.
    let same : ws ++ vs ≡ ws = ap (λ (l : List ℕ). ws ++ l) e ∙ append-nil ws in
    subst (λ (l : List ℕ). IsPaid (Some t) (Some v) l m) (sym same)
    (f.typed, λ zs. flat_payload_of t v (ws ++ zs) (subst (λ (l : List ℕ). FlatOf m t v l) (sym (wrapped_filled (flat t) ws zs f.typed)) f.stands)))

enum_words : (labels : List (List ℕ)) (n : ℕ) (ws : List ℕ) → AreWords (flat (leaves.Enum labels)) (n ∷ ws) → ws ≡ []
enum_words labels n ws a =
    let is : flat (leaves.Enum labels) ≡ I32 ∷ [] = flat_is (leaves.Enum labels) ∙ ap (λ (y : F.ValType-F ValType Case Field). flat_step (flats_in y)) (out_enum labels) in
    let b : AreWords (I32 ∷ []) (n ∷ ws) = subst (λ (ts : List CoreType). AreWords ts (n ∷ ws)) is a in
    no_words ws b.1

enum_lowered : (labels : List (List ℕ)) (n : ℕ) → n < length labels → (m ws : List ℕ) → AreWords (flat (leaves.Enum labels)) (n ∷ ws) → IsFlatPayload m None None ws
    → FlatOf m (leaves.Enum labels) (values.Variant n None) (n ∷ ws)
enum_lowered labels n low m ws a i = subst (λ (l : List ℕ). FlatOf m (leaves.Enum labels) (values.Variant n None) (n ∷ l)) (sym (enum_words labels n ws a)) (enum_flat n labels low)

mutual
  pub flattened : {t : ValType} {v : Value} → IsOf t v → Flat t v
  flattened (bool_is b) = bool_flat b
  flattened (s8_is n f) = s8_lowered n f
  flattened (u8_is n f) = u8_lowered n f
  flattened (s16_is n f) = s16_lowered n f
  flattened (u16_is n f) = u16_lowered n f
  flattened (s32_is n f) = s32_lowered n f
  flattened (u32_is n f) = u32_lowered n f
  flattened (s64_is n f) = s64_lowered n f
  flattened (u64_is n f) = u64_lowered n f
  flattened (char_is c f) = char_lowered c (scalar_low c f) f
  flattened (own_is resource n f) = own_lowered resource n f
  flattened (borrow_is resource n f) = borrow_lowered resource n f
  flattened (stream_is element n f) = stream_lowered element n f
  flattened (future_is element n f) = future_lowered element n f
  flattened (string_is text f) = string_lowered text f
  flattened (list_is element all are) = list_lowered element all (elements_go are)
  flattened (record_is fields all are) =
      row_lowered (types.Record fields) (map (λ (f : Field). f.val_type) fields) all (parts_of_record fields) (flat_of_record fields) (fields_flat are) (λ m ws h. record_flat fields all ws h)
  flattened (tuple_is parts all are) = row_lowered (types.Tuple parts) parts all (parts_of_tuple parts) (flat_of_tuple parts) (fields_flat are) (λ m ws h. tuple_flat parts all ws h)
  flattened (flags_are labels flags many few) = flags_lowered labels flags many few
  flattened (case_is n cases c payload few there is) =
      case_lowered (types.Variant cases) (F.Variant cases) n c.payload payload (out_variant cases) tt few (case_part cases n c there) (rest_flat is)
      (λ m ws a i. case_flat n cases c payload ws there i)
  flattened (enum_is n labels few low) =
      case_lowered (leaves.Enum labels) (F.Enum labels) n None None (out_enum labels) tt few refl no_payload_flat (enum_lowered labels n low)
  flattened (none_is part) = case_lowered (types.Option part) (F.Option part) 0 None None (out_option part) tt (omega arith) refl no_payload_flat (λ m ws a i. none_flat part ws)
  flattened (some_is part payload is) =
      case_lowered (types.Option part) (F.Option part) 1 (Some part) payload (out_option part) tt (omega arith) refl (rest_flat is) (λ m ws a i. some_flat part payload ws i)
  flattened (ok_is ok err payload is) =
      case_lowered (types.Result ok err) (F.Result ok err) 0 ok payload (out_result ok err) tt (omega arith) refl (rest_flat is) (λ m ws a i. ok_flat ok err payload ws i)
  flattened (err_is ok err payload is) =
      case_lowered (types.Result ok err) (F.Result ok err) 1 err payload (out_result ok err) tt (omega arith) refl (rest_flat is) (λ m ws a i. err_flat ok err payload ws i)

  fields_flat : {types : List ValType} {all : List Value} → EachIs types all → FieldsFlat types all
  fields_flat no_types = no_fields_flat
  fields_flat (more_types t types v all is are) = more_fields_flat t types v all (flattened is) (fields_flat are)

  rest_flat : {p : Option ValType} {payload : Option Value} → PayloadIs p payload → PayloadFlat p payload
  rest_flat no_payload_is = no_payload_flat
  rest_flat (payload_is t v is) = payload_flat t v (flattened is)
