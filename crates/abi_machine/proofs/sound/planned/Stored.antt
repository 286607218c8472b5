-- The plans by which a value of a type is stored put bytes inside, and ask for places with words.
use Rattle.std.proofs.Common.{◌≡◌, ◌∙◌, ◌≤◌, ◌<◌, ◌+◌, ◌*◌, ◌%◌, ◌^◌, ◌==◌, ◌&&◌, inl, inr, if◌then◌else◌, cond, nat_lt, nat_le, ℕ, zero, suc, Bool, true, false, List, [], ◌∷◌, map, length, replicate, Option, Some, None, refl, ap, sym, subst, arith, suc-mul}
use Rattle.std.proofs.lemmas.Bool.{cond_both, ltb-true, leb-true}
use Rattle.std.proofs.lemmas.List.{length-map, length-replicate}
use Rattle.std.specs.Str.{IsUtf8}
use Rattle.std.specs.Int.{Width, w8, w16, w32, w64, byte_len, bytes_low_first, to_le_bytes, cast_unsigned}
use mir.Val.{bits}
use Rattle.builtin_kinds.specs.declared.EndKind.TheVariants as end_kind
use Rattle.syntax_trees.specs.declared.types.ValType.{ValType, out-ValType}
use Rattle.syntax_trees.specs.declared.types.Case.{Case}
use Rattle.syntax_trees.specs.declared.types.Field.{Field}
use Rattle.syntax_trees.specs.declared.types.ValType.TheOpen as F
use Rattle.syntax_trees.specs.declared.types.ValType.TheViews as types
use Rattle.syntax_trees.specs.declared.types.ValType.TheVariants as leaves
use Rattle.syntax_trees.specs.declared.value.Value.{Value}
use Rattle.syntax_trees.specs.declared.value.Value.TheOpen as V
use Rattle.syntax_trees.specs.declared.value.Value.TheViews as values
use Rattle.syntax_trees.specs.declared.value.Value.TheViews.{roll-Value}
use Rattle.syntax_trees.specs.declared.value.Value.TheVariants as plain
use Rattle.syntax_trees.specs.declared.value.Value.TheFolds.{map-Value, fold-roll-Value}
use Rattle.laid_types.specs.Layout.{Laid, laid, laid_step, tag_size, bits_size, aligned, tagged}
use Rattle.laid_types.specs.Parts.{parts_of, parts_case, part_at, case_count, payload_place, layouts}
use Rattle.value_lower.specs.Lowering.{number_bytes, flags_number}
use Rattle.value_lift.specs.Bytes.{width_of}
use Rattle.value_lift.specs.Pieces.{part_in}
use Rattle.value_lift.specs.Room.{end_behind}
use Rattle.value_lift.proofs.Equations.{layouts_in, laid_is}
use Rattle.value_lift.proofs.Forms.{IsRow, HasCases}
use Rattle.value_lift.proofs.Rooms.{row_room, end_up, tagged_is, case_room, tag_bytes, flag_bytes}
use Rattle.value_lift.proofs.Stood.{parts_of_record, parts_of_tuple, case_part}
use Rattle.value_lift.proofs.Views.{out_bool, out_s8, out_u8, out_s16, out_u16, out_s32, out_u32, out_s64, out_u64, out_char, out_own, out_borrow, out_stream, out_future, out_string, out_flags, out_list, out_record, out_tuple, out_variant, out_enum, out_option, out_result}
use Rattle.lowering_laws.specs.Values.{AreBytes}
use Rattle.abi_machine.specs.sound.Values.{IsOf, AllAre, EachIs, PayloadIs, bool_is, s8_is, u8_is, s16_is, u16_is, s32_is, u32_is, s64_is, u64_is, char_is, own_is, borrow_is, stream_is, future_is, string_is, list_is, record_is, tuple_is, flags_are, case_is, enum_is, none_is, some_is, ok_is, err_is, none_are, more_are, no_types, more_types, no_payload_is, payload_is}
use Rattle.lowering_laws.proofs.Bytes.{le_bytes}
use Rattle.lowering_laws.proofs.Aligns.{align_low}
use Rattle.wasm_store.proofs.Lists.{all_append}
use Rattle.abi_machine.specs.LoweringOver.{New, NewOwn, NewBorrow, NewEnd, Bounds, Misaligned, Plan, Gives, Fails, Asks, Size, Put, Adds, Lowered}
use Rattle.abi_machine.specs.LoweringOver as over
use Rattle.abi_machine.specs.sound.Planned.{HasLowRep, IsPlanned}
use lib.Utf8.{scalar, scalars, encode, encodes, scalar_cases}

abbrev pub Layer : Type 0
Layer = F.ValType-F ValType Case Field

pub size_of : (t : ValType) (y : Layer) → out-ValType t ≡ y → (laid t).size ≡ (laid_step (layouts_in y)).size
size_of t y e = ap (λ (l : Laid). l.size) (laid_is t ∙ ap (λ (y : Layer). laid_step (layouts_in y)) e)

-- Numbers as bytes.
low_length : (i count n : ℕ) → length (bytes_low_first i count n) ≡ count
low_length i zero n = refl
low_length i (suc count) n = ap suc (low_length (suc i) count n)

le_length : (w : Width) (n : ℕ) → length (to_le_bytes w n) ≡ byte_len w
le_length w n = low_length 0 (byte_len w) n

left_true : (a b : Bool) → (a && b) ≡ true → a ≡ true
left_true true b h = refl
left_true false b h = cc

right_true : (a b : Bool) → (a && b) ≡ true → b ≡ true
right_true true b h = h
right_true false b h = cc

-- The bytes of a text.
encode_bytes : (c : ℕ) → c < 1114112 → AreBytes (encode c)
unfolding encode
encode_bytes c h =
    cond_both (nat_lt c 128) (c ∷ []) (cond (nat_lt c 2048) _ _) AreBytes (λ e. (omega (arith, ltb-true c 128 e), tt))
    (λ e. cond_both (nat_lt c 2048) _ (cond (nat_lt c 65536) _ _) AreBytes (λ e. (omega (arith, ltb-true c 2048 e), (omega arith, tt)))
    (λ e. cond_both (nat_lt c 65536) _ _ AreBytes (λ e. (omega (arith, ltb-true c 65536 e), (omega arith, (omega arith, tt)))) (λ e. (omega (arith, h), (omega arith, (omega arith, (omega arith, tt)))))))

encodes_bytes : (cs : List ℕ) → scalars cs ≡ true → AreBytes (encodes cs)
encodes_bytes [] h = tt
encodes_bytes (c ∷ cs) h = all_append (λ b. b < 256) (encode c) (encodes cs) (encode_bytes c (below c (left_true (scalar c) (scalars cs) h))) (encodes_bytes cs (right_true (scalar c) (scalars cs) h))
  where
    below : (c : ℕ) → scalar c ≡ true → c < 1114112
    below c e = elim (scalar_cases c e) [
      | inl low ↦ omega (arith, low)
      | inr high ↦ omega (arith, high.1)
    ]

text_bytes : (text : List ℕ) → IsUtf8 text → AreBytes text
text_bytes text utf8 = subst AreBytes utf8.1.1 (encodes_bytes utf8.0 utf8.1.0)

-- where a count and a size are both below 2^32
first_low : (count size : ℕ) → (nat_lt count (2 ^ 32) && nat_lt size (2 ^ 32)) ≡ true → count < 2 ^ 32
first_low count size h = ltb-true count (2 ^ 32) (left_true (nat_lt count (2 ^ 32)) (nat_lt size (2 ^ 32)) h)

second_low : (count size : ℕ) → (nat_lt count (2 ^ 32) && nat_lt size (2 ^ 32)) ≡ true → size < 2 ^ 32
second_low count size h = ltb-true size (2 ^ 32) (right_true (nat_lt count (2 ^ 32)) (nat_lt size (2 ^ 32)) h)

abbrev pub somes : List ValType → List (Option ValType)
somes types = map (λ (t : ValType). Some t) types

module _ (Q : List ℕ → Type 0) where
  abbrev pub Fits : ℕ → Plan → Type 0
  Fits n plan = IsPlanned Q n plan

  -- what follows, over no shorter memory
  abbrev pub Follows : ℕ → Plan → Type 0
  Follows n k = (m : ℕ) → n ≤ m → Fits m k

  pub either_fits : (n : ℕ) (b : Bool) (p q : Plan) → (b ≡ true → Fits n p) → (b ≡ false → Fits n q) → Fits n (if b then p else q)
  either_fits n true p q h i = h refl
  either_fits n false p q h i = i refl

  pub tested_fits : (place align size n : ℕ) (k : Plan) → (place + size ≤ n → Fits n k) → Fits n (over.tested place align size k)
  tested_fits place align size n k h =
      either_fits n (place % align == 0) (Size (λ there. if nat_le (place + size) there then k else Fails Bounds)) (Fails Misaligned)
      (λ e. either_fits n (nat_le (place + size) n) k (Fails Bounds) (λ f. h (leb-true (place + size) n f)) (λ f. tt)) (λ e. tt)

  pub asked_fits : (count align size n : ℕ) (k : ℕ → Plan) → align ≤ 8 → ((place m : ℕ) → place < 2 ^ 32 → count < 2 ^ 32 → n ≤ m → place + size ≤ m → Fits m (k place)) → Fits n (over.asked count align size k)
  asked_fits count align size n k low h =
      either_fits n (nat_lt count (2 ^ 32) && nat_lt size (2 ^ 32)) (Asks (record { old = 0; old_size = 0; align = align; size = size }) (λ place. over.tested place align size (k place))) (Fails Bounds)
      (λ e. (
        (omega arith, (omega arith, (omega (arith, low), (second_low count size e, tt)))),
        λ place m small more. tested_fits place align size m (k place) (λ inside. h place m small (first_low count size e) more inside),
      )) (λ e. tt)

  pub text_fits : (text : List ℕ) (n : ℕ) (k : ℕ → Plan) → IsUtf8 text → ((place m : ℕ) → place < 2 ^ 32 → length text < 2 ^ 32 → n ≤ m → Fits m (k place)) → Fits n (over.text_in text k)
  text_fits text n k utf8 h =
      asked_fits (length text) 1 (length text) n (λ place. Put place text (k place)) (omega arith) (λ place m small few more inside. (text_bytes text utf8, inside, h place m small few more))

  pointed_fits : (place to count n : ℕ) (k : Plan) → place + 8 ≤ n → Fits n k → Fits n (over.pointed place to count k)
  pointed_fits place to count n k room h = (
    le_bytes w32 to,
    omega (arith, room, le_length w32 to),
    (le_bytes w32 count, omega (arith, room, le_length w32 count), h),
  )

  module _ (enter : New → (ℕ → Plan) → Plan) (enters : (entry : New) (n : ℕ) (k : ℕ → Plan) → HasLowRep entry → ((index : ℕ) → index < 2 ^ 32 → Fits n (k index)) → Fits n (enter entry k)) where
    abbrev pub lows : List Value → List Lowered
    lows all = map (over.lowered enter) all

    abbrev pub low_layer : V.Value-F Value → V.Value-F Lowered
    low_layer y = map-Value Value Lowered (over.lowered enter) y

    abbrev pub lowered_payload : Option Value → Option Lowered
    lowered_payload (Some v) = Some (over.lowered enter v)
    lowered_payload None = None

    abbrev store : ValType → Value → ℕ → Plan → Plan
    store t v place k = (over.lowered enter v).store t place k

    stored_by : (v : Value) (y : V.Value-F Value) (t : ValType) (place : ℕ) (k : Plan) → roll-Value y ≡ v → store t v place k ≡ over.store_case enter (low_layer y) t place k
    stored_by v y t place k e = ap (λ (l : Lowered). l.store t place k) (ap (over.lowered enter) (sym e) ∙ fold-roll-Value Lowered (over.lower_step enter) y)

    -- Stores.
    abbrev pub Stores : (Plan → Plan) → ℕ → ℕ → Type 0
    Stores P place size = (n : ℕ) (k : Plan) → place + size ≤ n → Follows n k → Fits n (P k)

    abbrev pub Stored : ValType → Value → Type 0
    Stored t v = (place : ℕ) → Stores (store t v place) place (laid t).size

    leaf : (t : ValType) (z : Layer) (v : Value) (y : V.Value-F Value) (w : Width) (n : ℕ) → roll-Value y ≡ v → out-ValType t ≡ z
        → ((place : ℕ) (k : Plan) → over.store_case enter (low_layer y) t place k ≡ Put place (to_le_bytes w n) k) → (laid_step (layouts_in z)).size ≡ byte_len w → Stored t v
    leaf t z v y w n rolls out e size place count k room h =
        let whole : (laid t).size ≡ byte_len w = size_of t z out ∙ size in
        subst (λ (p : Plan). Fits count p) (sym (stored_by v y t place k rolls ∙ e place k)) (le_bytes w n, omega (arith, room, whole, le_length w n), h count (omega arith))

    entry_stored : (t : ValType) (z : Layer) (v : Value) (y : V.Value-F Value) (entry : New) → roll-Value y ≡ v → out-ValType t ≡ z → HasLowRep entry
        → ((place : ℕ) (k : Plan) → over.store_case enter (low_layer y) t place k ≡ enter entry (λ index. Put place (to_le_bytes w32 index) k)) → (laid_step (layouts_in z)).size ≡ 4 → Stored t v
    entry_stored t z v y entry rolls out low e size place count k room h =
        let whole : (laid t).size ≡ 4 = size_of t z out ∙ size in
        subst (λ (p : Plan). Fits count p) (sym (stored_by v y t place k rolls ∙ e place k))
        (enters entry count (λ index. Put place (to_le_bytes w32 index) k) low (λ index small. (le_bytes w32 index, omega (arith, room, whole, le_length w32 index), h count (omega arith))))

    flags_stored : (labels : List (List ℕ)) (flags : List Bool) → length flags ≡ length labels → Stored (leaves.Flags labels) (plain.Flags flags)
    flags_stored labels flags many place n k room h =
        let count : ℕ = length labels in
        let t : ValType = leaves.Flags labels in
        let w : Width = width_of (bits_size count) in
        let bytes : List ℕ = number_bytes (bits_size count) (flags_number flags) in
        let size : (laid t).size ≡ byte_len w = size_of t (F.Flags labels) (out_flags labels) ∙ sym (flag_bytes count) in
        let long : length bytes ≡ byte_len w = le_length w (flags_number flags % 2 ^ bits w) in
        subst (λ (p : Plan). Fits n p)
        (sym (stored_by (plain.Flags flags) (V.Flags flags) t place k (plain.rolls-Flags flags) ∙ ap (λ (c : ℕ). Put place (number_bytes (bits_size c) (flags_number flags)) k) many))
        (le_bytes w (flags_number flags % 2 ^ bits w), omega (arith, room, size, long), h n (omega arith))

    string_stored : (text : List ℕ) → IsUtf8 text → Stored leaves.String (plain.String text)
    string_stored text utf8 place n k room h =
        let t : ValType = leaves.String in
        let size : (laid t).size ≡ 8 = size_of t F.String out_string in
        subst (λ (p : Plan). Fits n p) (sym (stored_by (plain.String text) (V.String text) t place k (plain.rolls-String text)))
        (text_fits text n (λ to. over.pointed place to (length text) k) utf8 (λ to m small few more. pointed_fits place to (length text) m k (omega (arith, size, room, more)) (h m more)))

    -- Values one after the other.

    abbrev pub Elements : ValType → List Value → Type 0
    Elements element all = (place : ℕ) → Stores (over.elements_from element place (lows all)) place (length all * (laid element).size)

    no_elements_stored : (element : ValType) → Elements element []
    no_elements_stored element place n k room h = h n (omega arith)

    more_elements_stored : (element : ValType) (v : Value) (all : List Value) → Stored element v → Elements element all → Elements element (v ∷ all)
    more_elements_stored element v all first rest place n k room h =
        let size : ℕ = (laid element).size in
        let bytes : suc (length all) * size ≡ length all * size + size = suc-mul (length all) size in
        let whole : place + suc (length all) * size ≤ n = room in
        first place n (over.elements_from element (place + size) (lows all) k) (omega (arith, whole, bytes))
        (λ m more. rest (place + size) m k (omega (arith, whole, bytes, more)) (λ l further. h l (omega (arith, more, further))))

    list_stored : (element : ValType) (all : List Value) → Elements element all → Stored (types.List element) (values.List all)
    list_stored element all parts place n k room h =
        let count : ℕ = length all in
        let t : ValType = types.List element in
        let v : Value = values.List all in
        let size : (laid t).size ≡ 8 = size_of t (F.List element) (out_list element) in
        let part : part_at t 0 ≡ Some element = ap (λ (y : Layer). part_in (parts_case y) 0) (out_list element) in
        let e : store t v place k ≡ over.asked count (laid element).align (count * (laid element).size) (λ to. over.elements_from element to (lows all) (over.pointed place to count k)) =
        stored_by v (V.List all) t place k (plain.rolls-List all)
        ∙ ap (λ (p : Option ValType). over.list_in p (lows all) (λ to. over.pointed place to (length (lows all)) k)) part
        ∙ ap (λ (n : ℕ). over.asked n (laid element).align (n * (laid element).size) (λ to. over.elements_from element to (lows all) (over.pointed place to n k))) (length-map all (over.lowered enter)) in
        subst (λ (p : Plan). Fits n p) (sym e)
        (asked_fits count (laid element).align (count * (laid element).size) n (λ to. over.elements_from element to (lows all) (over.pointed place to count k)) (align_low element)
        (λ to m small few more inside. parts to m (over.pointed place to count k) inside (λ l further. pointed_fits place to count l k (omega (arith, size, room, more, further)) (h l (omega (arith, more, further))))))

    -- Values of a record.
    abbrev Fields : List ValType → List Value → Type 0
    Fields types all =
        (place end n : ℕ) (k : Plan) → place + end_behind end (somes types) ≤ n → Follows n k → Fits n (over.fields_from place end (somes types) (lows all) k)

    no_fields_stored : Fields [] []
    no_fields_stored place end n k room h = h n (omega arith)

    more_fields_stored : (t : ValType) (types : List ValType) (v : Value) (all : List Value) → Stored t v → Fields types all → Fields (t ∷ types) (v ∷ all)
    more_fields_stored t types v all first rest place end n k room h =
        let start : ℕ = aligned end (laid t).align in
        let next : ℕ = start + (laid t).size in
        let whole : place + end_behind next (somes types) ≤ n = room in
        let up : next ≤ end_behind next (somes types) = end_up (somes types) next in
        first (place + start) n (over.fields_from place next (somes types) (lows all) k) (omega (arith, whole, up))
        (λ m more. rest place next m k (omega (arith, whole, more)) (λ l further. h l (omega (arith, more, further))))

    row_stored : (t : ValType) (y : Layer) (types : List ValType) (all : List Value) → out-ValType t ≡ y → IsRow y → parts_of t ≡ somes types → Fields types all → Stored t (values.Record all)
    row_stored t y types all e row parts fields place n k room h =
        let inside : end_behind 0 (somes types) ≤ (laid t).size = subst (λ (ts : List (Option ValType)). end_behind 0 ts ≤ (laid t).size) parts (row_room t (subst IsRow (sym e) row)) in
        subst (λ (p : Plan). Fits n p)
        (sym (stored_by (values.Record all) (V.Record all) t place k (plain.rolls-Record all) ∙ ap (λ (ts : List (Option ValType)). over.fields_from place 0 ts (lows all) k) parts))
        (fields place 0 n k (omega (arith, inside, room)) h)

    -- Cases.
    variant_stored : (n : ℕ) (payload : Option Value) (t : ValType) (place : ℕ) (k : Plan) → store t (values.Variant n payload) place k ≡ over.case_from t n (lowered_payload payload) place k
    variant_stored n (Some v) t place k = stored_by (values.Variant n (Some v)) (V.Variant n (Some v)) t place k (plain.rolls-Variant n (Some v))
    variant_stored n None t place k = stored_by (values.Variant n None) (V.Variant n None) t place k (plain.rolls-Variant n None)

    payload_inside : (t p : ValType) (n : ℕ) → HasCases (out-ValType t) → part_at t n ≡ Some p → payload_place t + (laid p).size ≤ (laid t).size
    payload_inside t p n h e =
        let m : List ℕ = replicate (laid t).size 0 in
        let long : length m ≡ (laid t).size = length-replicate (laid t).size 0 in
        omega (arith, long, (case_room t 0 m h (omega (arith, long))).payload n p e)

    place_inside : (t : ValType) → HasCases (out-ValType t) → payload_place t ≤ (laid t).size
    place_inside t h =
        let e : (laid t).size ≡ (tagged (case_count t) (layouts (parts_of t))).size = ap (λ (l : Laid). l.size) (tagged_is t h) in
        omega (arith, e)

    abbrev Payload : Option ValType → Option Value → Type 0
    Payload p payload = (place n : ℕ) (k : Plan) → ((q : ValType) → p ≡ Some q → place + (laid q).size ≤ n) → Follows n k → Fits n (over.payload_at p (lowered_payload payload) place k)

    case_stored : (t : ValType) (y : Layer) (i : ℕ) (p : Option ValType) (payload : Option Value) → out-ValType t ≡ y → HasCases y → part_in (parts_case y) i ≡ p → Payload p payload → Stored t (values.Variant i payload)
    case_stored t y i p payload e kind at goes place n k room h =
        let count : ℕ = case_count t in
        let w : Width = width_of (tag_size count) in
        let bytes : List ℕ = number_bytes (tag_size count) i in
        let own : HasCases (out-ValType t) = subst HasCases (sym e) kind in
        let part : part_at t i ≡ p = ap (λ (y : Layer). part_in (parts_case y) i) e ∙ at in
        let short : byte_len w ≡ tag_size count = tag_bytes count in
        let long : length bytes ≡ byte_len w = le_length w (i % 2 ^ bits w) in
        let inside : payload_place t ≤ (laid t).size = place_inside t own in
        let tag_room : tag_size count ≤ payload_place t = omega arith in
        subst (λ (q : Plan). Fits n q)
        (sym (variant_stored i payload t place k ∙ ap (λ (o : Option ValType). Put place bytes (over.payload_at o (lowered_payload payload) (place + payload_place t) k)) part)) (
          le_bytes w (i % 2 ^ bits w),
          omega (arith, room, inside, tag_room, long, short),
          goes (place + payload_place t) n k (λ q f. omega (arith, room, payload_inside t q i own (part ∙ f))) h,
        )

    no_payload_stored : Payload None None
    no_payload_stored place n k room h = h n (omega arith)

    payload_stored : (t : ValType) (v : Value) → Stored t v → Payload (Some t) (Some v)
    payload_stored t v goes place n k room h = goes place n k (room t refl) h

    mutual
      pub stored_fits : {t : ValType} {v : Value} → IsOf t v → Stored t v
      stored_fits (bool_is true) = leaf leaves.Bool F.Bool (plain.Bool true) (V.Bool true) w8 1 (plain.rolls-Bool true) out_bool (λ place k. refl) refl
      stored_fits (bool_is false) = leaf leaves.Bool F.Bool (plain.Bool false) (V.Bool false) w8 0 (plain.rolls-Bool false) out_bool (λ place k. refl) refl
      stored_fits (s8_is n f) = leaf leaves.S8 F.S8 (plain.S8 n) (V.S8 n) w8 (cast_unsigned w8 n) (plain.rolls-S8 n) out_s8 (λ place k. refl) refl
      stored_fits (u8_is n f) = leaf leaves.U8 F.U8 (plain.U8 n) (V.U8 n) w8 n (plain.rolls-U8 n) out_u8 (λ place k. refl) refl
      stored_fits (s16_is n f) = leaf leaves.S16 F.S16 (plain.S16 n) (V.S16 n) w16 (cast_unsigned w16 n) (plain.rolls-S16 n) out_s16 (λ place k. refl) refl
      stored_fits (u16_is n f) = leaf leaves.U16 F.U16 (plain.U16 n) (V.U16 n) w16 n (plain.rolls-U16 n) out_u16 (λ place k. refl) refl
      stored_fits (s32_is n f) = leaf leaves.S32 F.S32 (plain.S32 n) (V.S32 n) w32 (cast_unsigned w32 n) (plain.rolls-S32 n) out_s32 (λ place k. refl) refl
      stored_fits (u32_is n f) = leaf leaves.U32 F.U32 (plain.U32 n) (V.U32 n) w32 n (plain.rolls-U32 n) out_u32 (λ place k. refl) refl
      stored_fits (s64_is n f) = leaf leaves.S64 F.S64 (plain.S64 n) (V.S64 n) w64 (cast_unsigned w64 n) (plain.rolls-S64 n) out_s64 (λ place k. refl) refl
      stored_fits (u64_is n f) = leaf leaves.U64 F.U64 (plain.U64 n) (V.U64 n) w64 n (plain.rolls-U64 n) out_u64 (λ place k. refl) refl
      stored_fits (char_is c f) = leaf leaves.Char F.Char (plain.Char c) (V.Char c) w32 c (plain.rolls-Char c) out_char (λ place k. refl) refl
      stored_fits (own_is resource n f) =
          entry_stored (leaves.Own resource) (F.Own resource) (plain.Own (record { resource = resource; rep = n })) (V.Own (record { resource = resource; rep = n })) (NewOwn resource n) (plain.rolls-Own (record { resource = resource; rep = n })) (out_own resource) f (λ place k. refl) refl
      stored_fits (borrow_is resource n f) =
          entry_stored (leaves.Borrow resource) (F.Borrow resource) (plain.Borrow (record { resource = resource; rep = n })) (V.Borrow (record { resource = resource; rep = n })) (NewBorrow resource n) (plain.rolls-Borrow (record { resource = resource; rep = n })) (out_borrow resource) f (λ place k. refl) refl
      stored_fits (stream_is element n) = entry_stored (types.Stream element) (F.Stream element) (plain.Stream n) (V.Stream n) (NewEnd end_kind.Stream n) (plain.rolls-Stream n) (out_stream element) tt (λ place k. refl) refl
      stored_fits (future_is element n) = entry_stored (types.Future element) (F.Future element) (plain.Future n) (V.Future n) (NewEnd end_kind.Future n) (plain.rolls-Future n) (out_future element) tt (λ place k. refl) refl
      stored_fits (string_is text f) = string_stored text f
      stored_fits (list_is element all are) = list_stored element all (elements_fit are)
      stored_fits (record_is fields all are) = row_stored (types.Record fields) (F.Record fields) (map (λ (f : Field). f.val_type) fields) all (out_record fields) tt (parts_of_record fields) (fields_fit are)
      stored_fits (tuple_is parts all are) = row_stored (types.Tuple parts) (F.Tuple parts) parts all (out_tuple parts) tt (parts_of_tuple parts) (fields_fit are)
      stored_fits (flags_are labels flags many few) = flags_stored labels flags many
      stored_fits (case_is n cases c payload few there is) = case_stored (types.Variant cases) (F.Variant cases) n c.payload payload (out_variant cases) tt (case_part cases n c there) (payload_fits is)
      stored_fits (enum_is n labels few low) = case_stored (leaves.Enum labels) (F.Enum labels) n None None (out_enum labels) tt refl no_payload_stored
      stored_fits (none_is part) = case_stored (types.Option part) (F.Option part) 0 None None (out_option part) tt refl no_payload_stored
      stored_fits (some_is part payload is) = case_stored (types.Option part) (F.Option part) 1 (Some part) payload (out_option part) tt refl (payload_fits is)
      stored_fits (ok_is ok err payload is) = case_stored (types.Result ok err) (F.Result ok err) 0 ok payload (out_result ok err) tt refl (payload_fits is)
      stored_fits (err_is ok err payload is) = case_stored (types.Result ok err) (F.Result ok err) 1 err payload (out_result ok err) tt refl (payload_fits is)

      pub elements_fit : {element : ValType} {all : List Value} → AllAre element all → Elements element all
      elements_fit (none_are element) = no_elements_stored element
      elements_fit (more_are element v all is are) = more_elements_stored element v all (stored_fits is) (elements_fit are)

      fields_fit : {types : List ValType} {all : List Value} → EachIs types all → Fields types all
      fields_fit no_types = no_fields_stored
      fields_fit (more_types t types v all is are) = more_fields_stored t types v all (stored_fits is) (fields_fit are)

      payload_fits : {p : Option ValType} {payload : Option Value} → PayloadIs p payload → Payload p payload
      payload_fits no_payload_is = no_payload_stored
      payload_fits (payload_is t v is) = payload_stored t v (stored_fits is)
