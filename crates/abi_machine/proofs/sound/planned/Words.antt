-- The plans by which a value of a type is lowered into core values give core values of that type's, and put and ask as they may.
use Rattle.std.proofs.Common.{◌≡◌, ◌∙◌, ◌≤◌, ◌<◌, ◌+◌, ◌*◌, ◌^◌, ℕ, true, false, List, [], ◌∷◌, ◌++◌, map, length, Option, Some, None, refl, ap, sym, subst, arith, append-nil, append_assoc}
use Rattle.std.proofs.lemmas.List.{length-map}
use Rattle.std.specs.Str.{IsUtf8}
use Rattle.std.specs.Int.{w32, w64, cast_unsigned}
use Rattle.builtin_kinds.specs.declared.EndKind.TheVariants as end_kind
use Rattle.syntax_trees.specs.declared.core_type.CoreType.{CoreType}
use Rattle.syntax_trees.specs.declared.core_type.CoreType.TheVariants.{I32}
use Rattle.syntax_trees.specs.declared.types.ValType.{ValType, out-ValType}
use Rattle.syntax_trees.specs.declared.types.Field.{Field}
use Rattle.syntax_trees.specs.declared.types.ValType.TheOpen as F
use Rattle.syntax_trees.specs.declared.types.ValType.TheViews as types
use Rattle.syntax_trees.specs.declared.types.ValType.TheVariants as leaves
use Rattle.syntax_trees.specs.declared.value.Value.{Value}
use Rattle.syntax_trees.specs.declared.value.Value.TheOpen as V
use Rattle.syntax_trees.specs.declared.value.Value.TheViews as values
use Rattle.syntax_trees.specs.declared.value.Value.TheViews.{roll-Value}
use Rattle.syntax_trees.specs.declared.value.Value.TheVariants as plain
use Rattle.syntax_trees.specs.declared.value.Value.TheFolds.{fold-roll-Value}
use Rattle.syntax_trees.specs.Flat.{flat, flat_payload, all_of}
use Rattle.laid_types.specs.Layout.{laid}
use Rattle.laid_types.specs.Parts.{parts_of, parts_case, part_at}
use Rattle.value_lower.specs.Lowering.{filled, flags_number}
use Rattle.value_lift.specs.Pieces.{part_in}
use Rattle.value_lift.specs.WordStanding.{AreWords}
use Rattle.value_lift.proofs.Forms.{HasCases}
use Rattle.value_lift.proofs.Stood.{parts_of_record, parts_of_tuple, case_part}
use Rattle.value_lift.proofs.WordStood.{flat_of_record, flat_of_tuple, flat_of_stream, flat_of_future}
use Rattle.value_lift.proofs.Views.{out_bool, out_s8, out_u8, out_s16, out_u16, out_s32, out_u32, out_s64, out_u64, out_char, out_own, out_borrow, out_string, out_flags, out_list, out_variant, out_enum, out_option, out_result}
use Rattle.abi_machine.specs.sound.Values.{IsOf, AllAre, EachIs, PayloadIs, bool_is, s8_is, u8_is, s16_is, u16_is, s32_is, u32_is, s64_is, u64_is, char_is, own_is, borrow_is, stream_is, future_is, string_is, list_is, record_is, tuple_is, flags_are, case_is, enum_is, none_is, some_is, ok_is, err_is, no_types, more_types, no_payload_is, payload_is}
use Rattle.lowering_laws.proofs.Aligns.{align_low}
use Rattle.lowering_laws.proofs.Numbers.{scalar_low, unsigned_below}
use Rattle.lowering_laws.proofs.LoweredWords.{are_append, word_8, word_16}
use Rattle.lowering_laws.proofs.WordsByKind.{types_of, one_32, one_64, two_32, case_zeros, case_same, case_typed}
use Rattle.abi_machine.specs.LoweringOver.{New, NewOwn, NewBorrow, NewEnd, Plan, Gives, Lowered}
use Rattle.abi_machine.specs.LoweringOver as over
use Rattle.abi_machine.specs.sound.Planned.{HasLowRep}
use Rattle.abi_machine.proofs.sound.planned.Stored as stored

abbrev Layer : Type 0
Layer = stored.Layer

module _ (Q : List ℕ → Type 0) (enter : New → (ℕ → Plan) → Plan)
    (enters : (entry : New) (n : ℕ) (k : ℕ → Plan) → HasLowRep entry → ((index : ℕ) → index < 2 ^ 32 → stored.Fits Q n (k index)) → stored.Fits Q n (enter entry k)) where
  abbrev Fits : ℕ → Plan → Type 0
  Fits = stored.Fits Q

  abbrev Follows : ℕ → Plan → Type 0
  Follows = stored.Follows Q

  abbrev lows : List Value → List Lowered
  lows = stored.lows Q enter enters

  abbrev lowered_payload : Option Value → Option Lowered
  lowered_payload = stored.lowered_payload Q enter enters

  abbrev low_layer : V.Value-F Value → V.Value-F Lowered
  low_layer = stored.low_layer Q enter enters

  -- Core values of these types. Whatever follows them fits where it does over all of them.
  abbrev Words : List CoreType → (List ℕ → (List ℕ → Plan) → Plan) → Type 0
  Words ts W = (before : List ℕ) (n : ℕ) (K : List ℕ → Plan) → ((ws : List ℕ) → AreWords ts ws → Follows n (K (before ++ ws))) → Fits n (W before K)

  abbrev flat_words : ValType → Value → List ℕ → (List ℕ → Plan) → Plan
  flat_words t v before K = (over.lowered enter v).words t before K

  abbrev Flat : ValType → Value → Type 0
  Flat t v = Words (flat t) (flat_words t v)

  words_by : (v : Value) (y : V.Value-F Value) (t : ValType) (before : List ℕ) (K : List ℕ → Plan) → roll-Value y ≡ v → flat_words t v before K ≡ over.words_case enter (low_layer y) t before K
  words_by v y t before K e = ap (λ (l : Lowered). l.words t before K) (ap (over.lowered enter) (sym e) ∙ fold-roll-Value Lowered (over.lower_step enter) y)

  one : (t : ValType) (v : Value) (y : V.Value-F Value) (w : ℕ) → roll-Value y ≡ v → ((before : List ℕ) (K : List ℕ → Plan) → over.words_case enter (low_layer y) t before K ≡ K (before ++ w ∷ [])) → AreWords (flat t) (w ∷ [])
      → Flat t v
  one t v y w rolls e typed before n K h = subst (λ (p : Plan). Fits n p) (sym (words_by v y t before K rolls ∙ e before K)) (h (w ∷ []) typed n (omega arith))

  entered : (t : ValType) (v : Value) (y : V.Value-F Value) (entry : New) → roll-Value y ≡ v → HasLowRep entry
      → ((before : List ℕ) (K : List ℕ → Plan) → over.words_case enter (low_layer y) t before K ≡ enter entry (λ index. K (before ++ index ∷ []))) → flat t ≡ I32 ∷ [] → Flat t v
  entered t v y entry rolls low e is before n K h =
      subst (λ (p : Plan). Fits n p) (sym (words_by v y t before K rolls ∙ e before K))
      (enters entry n (λ index. K (before ++ index ∷ [])) low (λ index small. h (index ∷ []) (one_32 t index is small) n (omega arith)))

  string_flat : (text : List ℕ) → IsUtf8 text → Flat leaves.String (plain.String text)
  string_flat text utf8 before n K h =
      let t : ValType = leaves.String in
      subst (λ (p : Plan). Fits n p) (sym (words_by (plain.String text) (V.String text) t before K (plain.rolls-String text)))
      (stored.text_fits Q text n (λ to. K (before ++ to ∷ length text ∷ [])) utf8
      (λ to m small few more. h (to ∷ length text ∷ []) (two_32 t to (length text) (types_of t F.String out_string) small few) m more))

  list_words : (element : ValType) (all : List Value) (before : List ℕ) (K : List ℕ → Plan) → flat_words (types.List element) (values.List all) before K
      ≡ over.asked (length all) (laid element).align (length all * (laid element).size) (λ to. over.elements_from element to (lows all) (K (before ++ to ∷ length all ∷ [])))
  list_words element all before K =
      let part : part_at (types.List element) 0 ≡ Some element = ap (λ (y : Layer). part_in (parts_case y) 0) (out_list element) in
      words_by (values.List all) (V.List all) (types.List element) before K (plain.rolls-List all)
      ∙ ap (λ (p : Option ValType). over.list_in p (lows all) (λ to. K (before ++ to ∷ length (lows all) ∷ []))) part
      ∙ ap (λ (n : ℕ). over.asked n (laid element).align (n * (laid element).size) (λ to. over.elements_from element to (lows all) (K (before ++ to ∷ n ∷ [])))) (length-map all (over.lowered enter))

  list_flat : (element : ValType) (all : List Value) → AllAre element all → Flat (types.List element) (values.List all)
  list_flat element all are before n K h =
      let count : ℕ = length all in
      let t : ValType = types.List element in
      subst (λ (p : Plan). Fits n p) (sym (list_words element all before K))
      (stored.asked_fits Q count (laid element).align (count * (laid element).size) n (λ to. over.elements_from element to (lows all) (K (before ++ to ∷ count ∷ []))) (align_low element)
      (λ to m small few more inside. stored.elements_fit Q enter enters are to m (K (before ++ to ∷ count ∷ [])) inside
      (λ l further. h (to ∷ count ∷ []) (two_32 t to count (types_of t (F.List element) (out_list element)) small few) l (omega (arith, more, further)))))

  -- the same where nothing is given
  nothing : (n : ℕ) (before : List ℕ) (K : List ℕ → Plan) → ((ws : List ℕ) → AreWords [] ws → Follows n (K (before ++ ws))) → Fits n (K before)
  nothing n before K h = subst (λ (ws : List ℕ). Fits n (K ws)) (append-nil before) (h [] tt n (omega arith))

  abbrev RowFlat : List ValType → List Value → Type 0
  RowFlat types all = Words (all_of (map flat types)) (over.field_words (stored.somes types) (lows all))

  no_row_flat : RowFlat [] []
  no_row_flat before n K h = nothing n before K h

  more_row_flat : (t : ValType) (types : List ValType) (v : Value) (all : List Value) → Flat t v → RowFlat types all → RowFlat (t ∷ types) (v ∷ all)
  more_row_flat t types v all first rest before n K h =
      first before n (λ words. over.field_words (stored.somes types) (lows all) words K)
      (λ ws a m more. rest (before ++ ws) m K
      (λ vs b l further. subst (λ (xs : List ℕ). Fits l (K xs)) (sym (append_assoc before ws vs)) (h (ws ++ vs) (are_append (flat t) (all_of (map flat types)) ws vs a b) l (omega (arith, more, further)))))

  row_words : (t : ValType) (types : List ValType) (all : List Value) → parts_of t ≡ stored.somes types → (before : List ℕ) (K : List ℕ → Plan) → flat_words t (values.Record all) before K ≡ over.field_words (stored.somes types) (lows all) before K
  row_words t types all e before K = words_by (values.Record all) (V.Record all) t before K (plain.rolls-Record all) ∙ ap (λ (ts : List (Option ValType)). over.field_words ts (lows all) before K) e

  row_flat : (t : ValType) (types : List ValType) (all : List Value) → parts_of t ≡ stored.somes types → flat t ≡ all_of (map flat types) → RowFlat types all → Flat t (values.Record all)
  row_flat t types all parts is fields before n K h =
      subst (λ (p : Plan). Fits n p) (sym (row_words t types all parts before K)) (fields before n K (λ ws a. h ws (subst (λ (ts : List CoreType). AreWords ts ws) (sym is) a)))

  abbrev PayloadFlat : Option ValType → Option Value → Type 0
  PayloadFlat p payload = Words (flat_payload p) (over.payload_words p (lowered_payload payload))

  no_payload_flat : PayloadFlat None None
  no_payload_flat before n K h = nothing n before K h

  variant_words : (n : ℕ) (payload : Option Value) (t : ValType) (before : List ℕ) (K : List ℕ → Plan) → flat_words t (values.Variant n payload) before K ≡ over.case_words t n (lowered_payload payload) before K
  variant_words n (Some v) t before K = words_by (values.Variant n (Some v)) (V.Variant n (Some v)) t before K (plain.rolls-Variant n (Some v))
  variant_words n None t before K = words_by (values.Variant n None) (V.Variant n None) t before K (plain.rolls-Variant n None)

  case_flat : (t : ValType) (y : Layer) (i : ℕ) (p : Option ValType) (payload : Option Value) → out-ValType t ≡ y → HasCases y → i < 2 ^ 32 → part_in (parts_case y) i ≡ p → PayloadFlat p payload → Flat t (values.Variant i payload)
  case_flat t y i p payload e kind low at goes before n K h =
      let part : part_at t i ≡ p = ap (λ (y : Layer). part_in (parts_case y) i) e ∙ at in
      let L : List ℕ → Plan = λ words. K (filled (length (flat t)) (length before) words) in
      subst (λ (q : Plan). Fits n q) (sym (variant_words i payload t before K ∙ ap (λ (o : Option ValType). over.payload_words o (lowered_payload payload) (before ++ i ∷ []) L) part))
      (goes (before ++ i ∷ []) n L
      (λ ws a m more. subst (λ (xs : List ℕ). Fits m (K xs)) (sym (case_same t i before ws)) (h (i ∷ (ws ++ case_zeros t i before ws)) (case_typed t y i p e kind low at before ws a) m more)))

  mutual
    flat_words_fit : {t : ValType} {v : Value} → IsOf t v → Flat t v
    flat_words_fit (bool_is true) = one leaves.Bool (plain.Bool true) (V.Bool true) 1 (plain.rolls-Bool true) (λ before K. refl) (one_32 leaves.Bool 1 (types_of leaves.Bool F.Bool out_bool) (omega arith))
    flat_words_fit (bool_is false) = one leaves.Bool (plain.Bool false) (V.Bool false) 0 (plain.rolls-Bool false) (λ before K. refl) (one_32 leaves.Bool 0 (types_of leaves.Bool F.Bool out_bool) (omega arith))
    flat_words_fit (s8_is n f) = one leaves.S8 (plain.S8 n) (V.S8 n) (cast_unsigned w32 n) (plain.rolls-S8 n) (λ before K. refl) (one_32 leaves.S8 (cast_unsigned w32 n) (types_of leaves.S8 F.S8 out_s8) (word_8 n f))
    flat_words_fit (u8_is n f) = one leaves.U8 (plain.U8 n) (V.U8 n) n (plain.rolls-U8 n) (λ before K. refl) (one_32 leaves.U8 n (types_of leaves.U8 F.U8 out_u8) (omega (arith, f)))
    flat_words_fit (s16_is n f) = one leaves.S16 (plain.S16 n) (V.S16 n) (cast_unsigned w32 n) (plain.rolls-S16 n) (λ before K. refl) (one_32 leaves.S16 (cast_unsigned w32 n) (types_of leaves.S16 F.S16 out_s16) (word_16 n f))
    flat_words_fit (u16_is n f) = one leaves.U16 (plain.U16 n) (V.U16 n) n (plain.rolls-U16 n) (λ before K. refl) (one_32 leaves.U16 n (types_of leaves.U16 F.U16 out_u16) (omega (arith, f)))
    flat_words_fit (s32_is n f) = one leaves.S32 (plain.S32 n) (V.S32 n) (cast_unsigned w32 n) (plain.rolls-S32 n) (λ before K. refl) (one_32 leaves.S32 (cast_unsigned w32 n) (types_of leaves.S32 F.S32 out_s32) (unsigned_below w32 n f))
    flat_words_fit (u32_is n f) = one leaves.U32 (plain.U32 n) (V.U32 n) n (plain.rolls-U32 n) (λ before K. refl) (one_32 leaves.U32 n (types_of leaves.U32 F.U32 out_u32) f)
    flat_words_fit (s64_is n f) = one leaves.S64 (plain.S64 n) (V.S64 n) (cast_unsigned w64 n) (plain.rolls-S64 n) (λ before K. refl) (one_64 leaves.S64 (cast_unsigned w64 n) (types_of leaves.S64 F.S64 out_s64) (unsigned_below w64 n f))
    flat_words_fit (u64_is n f) = one leaves.U64 (plain.U64 n) (V.U64 n) n (plain.rolls-U64 n) (λ before K. refl) (one_64 leaves.U64 n (types_of leaves.U64 F.U64 out_u64) f)
    flat_words_fit (char_is c f) = one leaves.Char (plain.Char c) (V.Char c) c (plain.rolls-Char c) (λ before K. refl) (one_32 leaves.Char c (types_of leaves.Char F.Char out_char) (scalar_low c f))
    flat_words_fit (own_is resource n f) =
        entered (leaves.Own resource) (plain.Own (record { resource = resource; rep = n })) (V.Own (record { resource = resource; rep = n })) (NewOwn resource n) (plain.rolls-Own (record { resource = resource; rep = n })) f (λ before K. refl) (types_of (leaves.Own resource) (F.Own resource) (out_own resource))
    flat_words_fit (borrow_is resource n f) =
        entered (leaves.Borrow resource) (plain.Borrow (record { resource = resource; rep = n })) (V.Borrow (record { resource = resource; rep = n })) (NewBorrow resource n) (plain.rolls-Borrow (record { resource = resource; rep = n })) f (λ before K. refl) (types_of (leaves.Borrow resource) (F.Borrow resource) (out_borrow resource))
    flat_words_fit (stream_is element n) = entered (types.Stream element) (plain.Stream n) (V.Stream n) (NewEnd end_kind.Stream n) (plain.rolls-Stream n) tt (λ before K. refl) (flat_of_stream element)
    flat_words_fit (future_is element n) = entered (types.Future element) (plain.Future n) (V.Future n) (NewEnd end_kind.Future n) (plain.rolls-Future n) tt (λ before K. refl) (flat_of_future element)
    flat_words_fit (string_is text f) = string_flat text f
    flat_words_fit (list_is element all are) = list_flat element all are
    flat_words_fit (record_is fields all are) = row_flat (types.Record fields) (map (λ (f : Field). f.val_type) fields) all (parts_of_record fields) (flat_of_record fields) (row_fits are)
    flat_words_fit (tuple_is parts all are) = row_flat (types.Tuple parts) parts all (parts_of_tuple parts) (flat_of_tuple parts) (row_fits are)
    flat_words_fit (flags_are labels flags many few) =
        one (leaves.Flags labels) (plain.Flags flags) (V.Flags flags) (flags_number flags) (plain.rolls-Flags flags) (λ before K. refl) (one_32 (leaves.Flags labels) (flags_number flags) (types_of (leaves.Flags labels) (F.Flags labels) (out_flags labels)) (omega arith))
    flat_words_fit (case_is n cases c payload few there is) = case_flat (types.Variant cases) (F.Variant cases) n c.payload payload (out_variant cases) tt few (case_part cases n c there) (rest_fits is)
    flat_words_fit (enum_is n labels few low) = case_flat (leaves.Enum labels) (F.Enum labels) n None None (out_enum labels) tt few refl no_payload_flat
    flat_words_fit (none_is part) = case_flat (types.Option part) (F.Option part) 0 None None (out_option part) tt (omega arith) refl no_payload_flat
    flat_words_fit (some_is part payload is) = case_flat (types.Option part) (F.Option part) 1 (Some part) payload (out_option part) tt (omega arith) refl (rest_fits is)
    flat_words_fit (ok_is ok err payload is) = case_flat (types.Result ok err) (F.Result ok err) 0 ok payload (out_result ok err) tt (omega arith) refl (rest_fits is)
    flat_words_fit (err_is ok err payload is) = case_flat (types.Result ok err) (F.Result ok err) 1 err payload (out_result ok err) tt (omega arith) refl (rest_fits is)

    row_fits : {types : List ValType} {all : List Value} → EachIs types all → RowFlat types all
    row_fits no_types = no_row_flat
    row_fits (more_types t types v all is are) = more_row_flat t types v all (flat_words_fit is) (row_fits are)

    rest_fits : {p : Option ValType} {payload : Option Value} → PayloadIs p payload → PayloadFlat p payload
    rest_fits no_payload_is = no_payload_flat
    rest_fits (payload_is t v is) = flat_words_fit is

  -- The plans of a value as core values, at a new place, and at a place; and of values one after the other from a place on.
  pub flat_planned : (t : ValType) (v : Value) (n : ℕ) → IsOf t v → ((ws : List ℕ) → AreWords (flat t) ws → Q ws) → Fits n (over.flat_lowered enter t v)
  flat_planned t v n is gives = flat_words_fit is [] n (λ words. Gives words) (λ ws a m more. gives ws a)

  pub placed_planned : (t : ValType) (v : Value) (n : ℕ) → IsOf t v → ((place : ℕ) → place < 2 ^ 32 → Q (place ∷ [])) → Fits n (over.placed enter t v)
  placed_planned t v n is gives =
      stored.asked_fits Q 1 (laid t).align (laid t).size n (λ place. (over.lowered enter v).store t place (Gives (place ∷ []))) (align_low t)
      (λ place m small few more inside. stored.stored_fits Q enter enters is place m (Gives (place ∷ [])) inside (λ l further. gives place small))

  pub stored_planned : (t : ValType) (v : Value) (place n : ℕ) → IsOf t v → Q [] → Fits n (over.stored enter t v place)
  stored_planned t v place n is gives =
      stored.tested_fits Q place (laid t).align (laid t).size n ((over.lowered enter v).store t place (Gives [])) (λ inside. stored.stored_fits Q enter enters is place n (Gives []) inside (λ m more. gives))

  pub each_planned : (t : ValType) (all : List Value) (place n : ℕ) → AllAre t all → place + length all * (laid t).size ≤ n → Q [] → Fits n (over.all_stored enter t all place)
  each_planned t all place n are room gives = stored.elements_fit Q enter enters are place n (Gives []) room (λ m more. gives)
