-- The core values that a value is lowered into are of the type's core types, whatever is answered.
use Rattle.std.proofs.Common.{◌≡◌, ◌∙◌, ◌<◌, ◌+◌, ◌*◌, ◌^◌, ℕ, true, false, List, [], ◌∷◌, ◌++◌, map, length, Option, Some, None, refl, ap, sym, subst, arith, mod-eq_of_lt, append_assoc, append-nil}
use Rattle.std.specs.Int.{w32, w64, cast_unsigned}
use Rattle.syntax_trees.specs.declared.core_type.CoreType.{CoreType}
use Rattle.syntax_trees.specs.declared.core_type.CoreType.TheVariants.{I32}
use Rattle.syntax_trees.specs.declared.types.ValType.{ValType, out-ValType}
use Rattle.syntax_trees.specs.declared.types.Case.{Case}
use Rattle.syntax_trees.specs.declared.types.Field.{Field}
use Rattle.syntax_trees.specs.declared.types.ValType.TheOpen as F
use Rattle.syntax_trees.specs.declared.types.ValType.TheViews as types
use Rattle.syntax_trees.specs.declared.types.ValType.TheVariants as leaves
use Rattle.syntax_trees.specs.declared.value.Value.{Value}
use Rattle.syntax_trees.specs.declared.value.Value.TheOpen as V
use Rattle.syntax_trees.specs.declared.value.Value.TheViews as values
use Rattle.syntax_trees.specs.declared.value.Value.TheVariants as plain
use Rattle.laid_types.specs.Layout.{laid}
use Rattle.syntax_trees.specs.Flat.{flat, flat_payload, all_of}
use Rattle.laid_types.specs.Parts.{parts_of, parts_case}
use Rattle.value_lower.specs.Plan.{Plan, Gives, Fails, Asks, Size, Put, Adds}
use Rattle.value_lower.specs.Following.{written}
use Rattle.value_lower.specs.Lowering.{lowered, store, elements_from, flat_words, field_words, payload_words, filled, bits_of, placed, flat_lowered}
use Rattle.value_lower.proofs.Giving.{AllGive, asked_gives, text_gives}
use Rattle.value_lower.proofs.Counts.{good}
use Rattle.value_lift.specs.Pieces.{part_in}
use Rattle.value_lift.specs.WordStanding.{AreWords}
use Rattle.value_lift.proofs.Forms.{HasCases}
use Rattle.value_lift.proofs.Stood.{parts_of_record, parts_of_tuple, case_part}
use Rattle.value_lift.proofs.Views.{out_bool, out_s8, out_u8, out_s16, out_u16, out_s32, out_u32, out_s64, out_u64, out_char, out_own, out_borrow, out_string, out_flags, out_list, out_variant, out_enum, out_option, out_result}
use Rattle.value_lift.proofs.WordStood.{flat_of_record, flat_of_tuple, flat_of_stream, flat_of_future}
use Rattle.lowering_laws.specs.Settling.{Answer, Settles}
use Rattle.lowering_laws.specs.ValueLaws.{LoweredWordsAreTyped, PlacedWordsAreTyped}
use Rattle.lowering_laws.specs.Values.{IsOf, EachIs, PayloadIs, bool_is, s8_is, u8_is, s16_is, u16_is, s32_is, u32_is, s64_is, u64_is, char_is, own_is, borrow_is, stream_is, future_is, string_is, list_is, record_is, tuple_is, flags_are, case_is, enum_is, none_is, some_is, ok_is, err_is, no_types, more_types, no_payload_is, payload_is}
use Rattle.lowering_laws.proofs.ByKind.{lowered_payload}
use Rattle.lowering_laws.proofs.Numbers.{scalar_low, unsigned_below}
use Rattle.lowering_laws.proofs.LoweredWords.{are_append, word_8, word_16}
use Rattle.lowering_laws.proofs.WordsByKind.{words_by, types_of, one_32, one_64, two_32, list_words, row_words, case_zeros, case_same, case_plan, case_typed}

-- What holds of all core values that a plan may give holds of those that it comes to.
pub settled : (Q : List ℕ → Type 0) (plan : Plan) (memory : List ℕ) (answers : List Answer) (after words : List ℕ) → Settles plan memory answers after words → AllGive Q plan → Q words
settled Q (Gives others) memory answers after words h q = subst Q (sym h.2) q
settled Q (Fails why) memory answers after words h q = absurd h
settled Q (Asks ask k) memory [] after words h q = absurd h
settled Q (Asks ask k) memory (answer ∷ answers) after words h q = settled Q (k answer.place) answer.after answers after words h.1 (q answer.place h.0.low)
settled Q (Size k) memory answers after words h q = settled Q (k (length memory)) memory answers after words h (q (length memory))
settled Q (Put place bytes k) memory answers after words h q = settled Q k (written place bytes memory) answers after words h q
settled Q (Adds entry k) memory answers after words h q = settled Q (k h.0) memory answers after words h.1 (q h.0)

abbrev somes : List ValType → List (Option ValType)
somes types = map (λ (t : ValType). Some t) types

module _ (Q : List ℕ → Type 0) where
  -- Whatever follows gives such core values, if it does so behind core values of these types.
  abbrev Typed : (List ℕ → (List ℕ → Plan) → Plan) → List CoreType → Type 0
  Typed W types = (before : List ℕ) (K : List ℕ → Plan) → ((ws : List ℕ) → AreWords types ws → AllGive Q (K (before ++ ws))) → AllGive Q (W before K)

  abbrev Wide : ValType → Value → Type 0
  Wide t v = Typed (flat_words t v) (flat t)

  elements_give : (t : ValType) (all : List Value) (place : ℕ) (k : Plan) → AllGive Q k → AllGive Q (elements_from t place (map lowered all) k)
  elements_give t [] place k h = h
  elements_give t (v ∷ all) place k h =
      (good Q v).store t place (elements_from t (place + (laid t).size) (map lowered all) k) (elements_give t all (place + (laid t).size) k h)

  one : (t : ValType) (v : Value) (w : ℕ) → ((before : List ℕ) (K : List ℕ → Plan) → flat_words t v before K ≡ K (before ++ w ∷ [])) → AreWords (flat t) (w ∷ []) → Wide t v
  one t v w e is before K h = subst (λ (p : Plan). AllGive Q p) (sym (e before K)) (h (w ∷ []) is)

  text_wide : (text : List ℕ) → Wide leaves.String (plain.String text)
  text_wide text before K h =
      let t : ValType = leaves.String in
      subst (λ (p : Plan). AllGive Q p) (sym (words_by (plain.String text) (V.String text) t before K (plain.rolls-String text)))
      (text_gives Q text (λ to. K (before ++ to ∷ length text ∷ []))
      (λ to low few. h (to ∷ length text ∷ []) (two_32 t to (length text) (types_of t F.String out_string) low few)))

  list_wide : (element : ValType) (all : List Value) → Wide (types.List element) (values.List all)
  list_wide element all before K h =
      let t : ValType = types.List element in
      let count : ℕ = length all in
      subst (λ (p : Plan). AllGive Q p) (sym (list_words element all before K))
      (asked_gives Q count (laid element).align (count * (laid element).size) (λ to. elements_from element to (map lowered all) (K (before ++ to ∷ count ∷ [])))
      (λ to low few.
      elements_give element all to (K (before ++ to ∷ count ∷ [])) (h (to ∷ count ∷ []) (two_32 t to count (types_of t (F.List element) (out_list element)) low few))))

  abbrev FieldsWide : List ValType → List Value → Type 0
  FieldsWide types all = Typed (field_words (somes types) (map lowered all)) (all_of (map flat types))

  no_fields_wide : FieldsWide [] []
  no_fields_wide before K h = subst (λ (l : List ℕ). AllGive Q (K l)) (append-nil before) (h [] tt)

  more_fields_wide : (t : ValType) (types : List ValType) (v : Value) (all : List Value) → Wide t v → FieldsWide types all → FieldsWide (t ∷ types) (v ∷ all)
  more_fields_wide t types v all first rest before K h =
      first before (λ words. field_words (somes types) (map lowered all) words K)
      (λ ws a.
      rest (before ++ ws) K (λ vs b. subst (λ (l : List ℕ). AllGive Q (K l)) (sym (append_assoc before ws vs)) (h (ws ++ vs) (are_append (flat t) (all_of (map flat types)) ws vs a b))))

  row_wide : (t : ValType) (types : List ValType) (all : List Value) → parts_of t ≡ somes types → flat t ≡ all_of (map flat types) → FieldsWide types all → Wide t (values.Record all)
  row_wide t types all e f fields before K h =
      subst (λ (p : Plan). AllGive Q p) (sym (row_words t types all e before K)) (fields before K (λ ws a. h ws (subst (λ (ts : List CoreType). AreWords ts ws) (sym f) a)))

  abbrev PayloadWide : Option ValType → Option Value → Type 0
  PayloadWide p payload = Typed (payload_words p (lowered_payload payload)) (flat_payload p)

  no_payload_wide : PayloadWide None None
  no_payload_wide before K h = subst (λ (l : List ℕ). AllGive Q (K l)) (append-nil before) (h [] tt)

  case_wide : (t : ValType) (y : F.ValType-F ValType Case Field) (n : ℕ) (p : Option ValType) (payload : Option Value) → out-ValType t ≡ y → HasCases y → n < 2 ^ 32
      → part_in (parts_case y) n ≡ p → PayloadWide p payload → Wide t (values.Variant n payload)
  case_wide t y n p payload e kind low at wide before K h =
      subst (λ (q : Plan). AllGive Q q) (sym (case_plan t y n p payload e at before K))
      (wide (before ++ n ∷ []) (λ ws. K (filled (length (flat t)) (length before) ws))
      (λ ws a. subst (λ (l : List ℕ). AllGive Q (K l)) (sym (case_same t n before ws)) (h (n ∷ (ws ++ case_zeros t n before ws)) (case_typed t y n p e kind low at before ws a))))

  mutual
    pub wide : {t : ValType} {v : Value} → IsOf t v → Wide t v
    wide (bool_is true) =
        one leaves.Bool (plain.Bool true) 1 (λ before K. words_by (plain.Bool true) (V.Bool true) leaves.Bool before K (plain.rolls-Bool true)) (one_32 leaves.Bool 1 (types_of leaves.Bool F.Bool out_bool) (omega arith))
    wide (bool_is false) =
        one leaves.Bool (plain.Bool false) 0 (λ before K. words_by (plain.Bool false) (V.Bool false) leaves.Bool before K (plain.rolls-Bool false)) (one_32 leaves.Bool 0 (types_of leaves.Bool F.Bool out_bool) (omega arith))
    wide (s8_is n f) =
        one leaves.S8 (plain.S8 n) (cast_unsigned w32 n) (λ before K. words_by (plain.S8 n) (V.S8 n) leaves.S8 before K (plain.rolls-S8 n)) (one_32 leaves.S8 (cast_unsigned w32 n) (types_of leaves.S8 F.S8 out_s8) (word_8 n f))
    wide (u8_is n f) =
        one leaves.U8 (plain.U8 n) n (λ before K. words_by (plain.U8 n) (V.U8 n) leaves.U8 before K (plain.rolls-U8 n)) (one_32 leaves.U8 n (types_of leaves.U8 F.U8 out_u8) (omega (arith, f)))
    wide (s16_is n f) =
        one leaves.S16 (plain.S16 n) (cast_unsigned w32 n) (λ before K. words_by (plain.S16 n) (V.S16 n) leaves.S16 before K (plain.rolls-S16 n)) (one_32 leaves.S16 (cast_unsigned w32 n) (types_of leaves.S16 F.S16 out_s16) (word_16 n f))
    wide (u16_is n f) =
        one leaves.U16 (plain.U16 n) n (λ before K. words_by (plain.U16 n) (V.U16 n) leaves.U16 before K (plain.rolls-U16 n)) (one_32 leaves.U16 n (types_of leaves.U16 F.U16 out_u16) (omega (arith, f)))
    wide (s32_is n f) =
        one leaves.S32 (plain.S32 n) (cast_unsigned w32 n) (λ before K. words_by (plain.S32 n) (V.S32 n) leaves.S32 before K (plain.rolls-S32 n)) (one_32 leaves.S32 (cast_unsigned w32 n) (types_of leaves.S32 F.S32 out_s32) (unsigned_below w32 n f))
    wide (u32_is n f) = one leaves.U32 (plain.U32 n) n (λ before K. words_by (plain.U32 n) (V.U32 n) leaves.U32 before K (plain.rolls-U32 n)) (one_32 leaves.U32 n (types_of leaves.U32 F.U32 out_u32) f)
    wide (s64_is n f) =
        one leaves.S64 (plain.S64 n) (cast_unsigned w64 n) (λ before K. words_by (plain.S64 n) (V.S64 n) leaves.S64 before K (plain.rolls-S64 n)) (one_64 leaves.S64 (cast_unsigned w64 n) (types_of leaves.S64 F.S64 out_s64) (unsigned_below w64 n f))
    wide (u64_is n f) = one leaves.U64 (plain.U64 n) n (λ before K. words_by (plain.U64 n) (V.U64 n) leaves.U64 before K (plain.rolls-U64 n)) (one_64 leaves.U64 n (types_of leaves.U64 F.U64 out_u64) f)
    wide (char_is c f) = one leaves.Char (plain.Char c) c (λ before K. words_by (plain.Char c) (V.Char c) leaves.Char before K (plain.rolls-Char c)) (one_32 leaves.Char c (types_of leaves.Char F.Char out_char) (scalar_low c f))
    wide (own_is resource n f) =
        one (leaves.Own resource) (plain.Own (record { resource = resource; rep = n })) n (λ before K. words_by (plain.Own (record { resource = resource; rep = n })) (V.Own (record { resource = resource; rep = n })) (leaves.Own resource) before K (plain.rolls-Own (record { resource = resource; rep = n }))) (one_32 (leaves.Own resource) n (types_of (leaves.Own resource) (F.Own resource) (out_own resource)) f)
    wide (borrow_is resource n f) =
        one (leaves.Borrow resource) (plain.Borrow (record { resource = resource; rep = n })) n (λ before K. words_by (plain.Borrow (record { resource = resource; rep = n })) (V.Borrow (record { resource = resource; rep = n })) (leaves.Borrow resource) before K (plain.rolls-Borrow (record { resource = resource; rep = n }))) (one_32 (leaves.Borrow resource) n (types_of (leaves.Borrow resource) (F.Borrow resource) (out_borrow resource)) f)
    wide (stream_is element n f) =
        one (types.Stream element) (plain.Stream n) n (λ before K. words_by (plain.Stream n) (V.Stream n) (types.Stream element) before K (plain.rolls-Stream n)) (one_32 (types.Stream element) n (flat_of_stream element) f)
    wide (future_is element n f) =
        one (types.Future element) (plain.Future n) n (λ before K. words_by (plain.Future n) (V.Future n) (types.Future element) before K (plain.rolls-Future n)) (one_32 (types.Future element) n (flat_of_future element) f)
    wide (string_is text f) = text_wide text
    wide (list_is element all are) = list_wide element all
    wide (record_is fields all are) = row_wide (types.Record fields) (map (λ (f : Field). f.val_type) fields) all (parts_of_record fields) (flat_of_record fields) (fields_wide are)
    wide (tuple_is parts all are) = row_wide (types.Tuple parts) parts all (parts_of_tuple parts) (flat_of_tuple parts) (fields_wide are)
    wide (flags_are labels flags many low) =
        one (leaves.Flags labels) (plain.Flags flags) (bits_of flags)
        (λ before K. words_by (plain.Flags flags) (V.Flags flags) (leaves.Flags labels) before K (plain.rolls-Flags flags) ∙ ap (λ (i : ℕ). K (before ++ i ∷ [])) (mod-eq_of_lt low))
        (one_32 (leaves.Flags labels) (bits_of flags) (types_of (leaves.Flags labels) (F.Flags labels) (out_flags labels)) low)
    wide (case_is n cases c payload low there is) = case_wide (types.Variant cases) (F.Variant cases) n c.payload payload (out_variant cases) tt low (case_part cases n c there) (rest_wide is)
    wide (enum_is n labels low few) = case_wide (leaves.Enum labels) (F.Enum labels) n None None (out_enum labels) tt low refl no_payload_wide
    wide (none_is part) = case_wide (types.Option part) (F.Option part) 0 None None (out_option part) tt (omega arith) refl no_payload_wide
    wide (some_is part payload is) = case_wide (types.Option part) (F.Option part) 1 (Some part) payload (out_option part) tt (omega arith) refl (rest_wide is)
    wide (ok_is ok err payload is) = case_wide (types.Result ok err) (F.Result ok err) 0 ok payload (out_result ok err) tt (omega arith) refl (rest_wide is)
    wide (err_is ok err payload is) = case_wide (types.Result ok err) (F.Result ok err) 1 err payload (out_result ok err) tt (omega arith) refl (rest_wide is)

    fields_wide : {types : List ValType} {all : List Value} → EachIs types all → FieldsWide types all
    fields_wide no_types = no_fields_wide
    fields_wide (more_types t types v all is are) = more_fields_wide t types v all (wide is) (fields_wide are)

    rest_wide : {p : Option ValType} {payload : Option Value} → PayloadIs p payload → PayloadWide p payload
    rest_wide no_payload_is = no_payload_wide
    rest_wide (payload_is t v is) = wide is

-- What all core values are that the plans of a value and of a value at a new place may give.
pub flat_gives : (type : ValType) (v : Value) → IsOf type v → AllGive (λ ws. AreWords (flat type) ws) (flat_lowered type v)
flat_gives type v is = wide (λ ws. AreWords (flat type) ws) is [] (λ ws. Gives ws) (λ ws a. a)

pub placed_gives : (type : ValType) (v : Value) → AllGive (λ ws. AreWords (I32 ∷ []) ws) (placed type v)
placed_gives type v =
    let Q : List ℕ → Type 0 = λ ws. AreWords (I32 ∷ []) ws in
    asked_gives Q 1 (laid type).align (laid type).size (λ place. store type v place (Gives (place ∷ [])))
    (λ place low few. (good Q v).store type place (Gives (place ∷ [])) (low, tt))

pub lowered_words_are_typed : LoweredWordsAreTyped
lowered_words_are_typed type v memory after words answers is h = settled (λ ws. AreWords (flat type) ws) (flat_lowered type v) memory answers after words h (flat_gives type v is)

pub placed_words_are_typed : PlacedWordsAreTyped
placed_words_are_typed type v memory after words answers h = settled (λ ws. AreWords (I32 ∷ []) ws) (placed type v) memory answers after words h (placed_gives type v)
