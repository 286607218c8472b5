-- What stands, and what is lifted, is of its type.
use Rattle.std.proofs.Common.{◌≡◌, ◌∙◌, ◌≤◌, ◌<◌, ◌+◌, ◌/◌, ◌%◌, ◌^◌, ℕ, zero, suc, Bool, true, false, cond, List, [], ◌∷◌, ◌++◌, map, length, get_or, Option, Some, None, Ok, Err, refl, ap, sym, subst, arith}
use Rattle.std.proofs.lemmas.Bool.{cond_both}
use Rattle.std.proofs.Math.Facts.{sfits_to_z}
use Rattle.std.specs.Prelude.{nat_le, FitsSigned, slice_index}
use Rattle.std.specs.Int.{Width, w8, w16, w32, w64, cast_signed}
use mir.Val.{bits}
use Rattle.syntax_trees.specs.declared.core_type.CoreType.{CoreType}
use Rattle.syntax_trees.specs.declared.core_type.CoreType.TheVariants.{I32, I64}
use Rattle.syntax_trees.specs.declared.types.ValType.{ValType, out-ValType}
use Rattle.syntax_trees.specs.declared.types.Case.{Case}
use Rattle.syntax_trees.specs.declared.types.Field.{Field}
use Rattle.syntax_trees.specs.declared.types.ValType.TheOpen as F
use Rattle.syntax_trees.specs.declared.types.ValType.TheViews as types
use Rattle.syntax_trees.specs.declared.types.ValType.TheVariants as leaves
use Rattle.syntax_trees.specs.declared.value.Value.{Value}
use Rattle.syntax_trees.specs.declared.value.Value.TheVariants as plain
use Rattle.syntax_trees.specs.Flat.{flat, all_of}
use Rattle.laid_types.specs.Layout.{tag_size, bits_size}
use Rattle.laid_types.specs.Parts.{parts_case}
use Rattle.value_lower.specs.Lowering.{bits_of}
use Rattle.value_lift.specs.Answers.{Lifted, value_of}
use Rattle.value_lift.specs.Bytes.{number, bytes_at, width_of}
use Rattle.value_lift.specs.Lifting.{lift_words, most}
use Rattle.value_lift.specs.Pieces.{part_in}
use Rattle.value_lift.specs.Standing.{AreBits, tag, Stands, AreElements, AreFields, IsPayload, false_stands, true_stands, s8_stands, u8_stands, s16_stands, u16_stands, s32_stands, u32_stands, s64_stands, u64_stands, char_stands, own_stands, borrow_stands, stream_stands, future_stands, string_stands, list_stands, record_stands, tuple_stands, flags_stand, case_stands, enum_stands, none_stands, some_stands, ok_stands, err_stands, no_elements, more_elements, no_fields, more_fields, no_payload, payload_stands}
use Rattle.value_lift.specs.WordStanding.{AreWords, wrapped, FlatOf, AreFlat, IsFlatPayload, false_flat, true_flat, s8_flat, u8_flat, s16_flat, u16_flat, s32_flat, u32_flat, s64_flat, u64_flat, char_flat, own_flat, borrow_flat, stream_flat, future_flat, string_flat, list_flat, record_flat, tuple_flat, flags_flat, case_flat, enum_flat, none_flat, some_flat, ok_flat, err_flat, no_flat, more_flat, no_flat_payload, flat_payload_of}
use Rattle.value_lift.proofs.Forms.{HasCases}
use Rattle.value_lift.proofs.Loaded.{loaded_values_stand, loaded_lists_stand}
use Rattle.value_lift.proofs.Passing.{ok_same}
use Rattle.value_lift.proofs.Stood.{case_part}
use Rattle.value_lift.proofs.Views.{out_s32, out_u32, out_s64, out_u64, out_own, out_borrow, out_flags, out_variant, out_enum, out_option, out_result}
use Rattle.value_lift.proofs.WordStood.{flat_of_record, flat_of_tuple, flat_of_stream, flat_of_future}
use Rattle.value_lift.proofs.WordTypes.{word_told_type}
use Rattle.value_lift.proofs.Wrapped.{Shares, shares, words_many, below_length}
use Rattle.lowering_laws.specs.LiftedValues.{StandingValuesAre, StandingListsAre, FlattenedValuesAre, LoadedValuesAre, LoadedListsAre, LiftedValuesAre}
use Rattle.lowering_laws.specs.Values.{IsOf, AllAre, EachIs, PayloadIs, bool_is, s8_is, u8_is, s16_is, u16_is, s32_is, u32_is, s64_is, u64_is, char_is, own_is, borrow_is, stream_is, future_is, string_is, list_is, record_is, tuple_is, flags_are, case_is, enum_is, none_is, some_is, ok_is, err_is, none_are, more_are, no_types, more_types, no_payload_is, payload_is}
use Rattle.lowering_laws.proofs.Bytes.{each_byte}
use Rattle.lowering_laws.proofs.Memories.{byte_of}
use Rattle.lowering_laws.proofs.WordsByKind.{types_of}

-- a memory of bytes, by their places
abbrev pub EachByte : List ℕ → Type 0
EachByte memory = (i : ℕ) → slice_index memory i < 256

-- Numbers of bytes.
module _ (memory : List ℕ) (bytes : EachByte memory) (place : ℕ) where
  byte : (count i : ℕ) → i < count → get_or (bytes_at place count memory) i 0 < 256
  byte count i low = subst (λ (n : ℕ). n < 256) (sym (byte_of place count memory i low)) (bytes (place + i))

  number_8 : number w8 place memory < 2 ^ 8
  number_8 = byte 1 0 (omega arith)

  number_16 : number w16 place memory < 2 ^ 16
  number_16 =
      let a : get_or (bytes_at place 2 memory) 0 0 < 256 = byte 2 0 (omega arith) in
      let b : get_or (bytes_at place 2 memory) 1 0 < 256 = byte 2 1 (omega arith) in
      omega (arith, a, b)

  number_32 : number w32 place memory < 2 ^ 32
  number_32 =
      let a : get_or (bytes_at place 4 memory) 0 0 < 256 = byte 4 0 (omega arith) in
      let b : get_or (bytes_at place 4 memory) 1 0 < 256 = byte 4 1 (omega arith) in
      let c : get_or (bytes_at place 4 memory) 2 0 < 256 = byte 4 2 (omega arith) in
      let d : get_or (bytes_at place 4 memory) 3 0 < 256 = byte 4 3 (omega arith) in
      omega (arith, a, b, c, d)

  number_64 : number w64 place memory < 2 ^ 64
  number_64 =
      let a : get_or (bytes_at place 8 memory) 0 0 < 256 = byte 8 0 (omega arith) in
      let b : get_or (bytes_at place 8 memory) 1 0 < 256 = byte 8 1 (omega arith) in
      let c : get_or (bytes_at place 8 memory) 2 0 < 256 = byte 8 2 (omega arith) in
      let d : get_or (bytes_at place 8 memory) 3 0 < 256 = byte 8 3 (omega arith) in
      let e : get_or (bytes_at place 8 memory) 4 0 < 256 = byte 8 4 (omega arith) in
      let f : get_or (bytes_at place 8 memory) 5 0 < 256 = byte 8 5 (omega arith) in
      let g : get_or (bytes_at place 8 memory) 6 0 < 256 = byte 8 6 (omega arith) in
      let h : get_or (bytes_at place 8 memory) 7 0 < 256 = byte 8 7 (omega arith) in
      omega (arith, a, b, c, d, e, f, g, h)

  -- one of 1, 2 or 4 bytes
  number_any : (size : ℕ) → number (width_of size) place memory < 2 ^ 32
  number_any size =
      cond_both (nat_le size 1) w8 (cond (nat_le size 2) w16 w32) (λ (w : Width). number w place memory < 2 ^ 32) (λ e. omega (arith, number_8))
      (λ e. cond_both (nat_le size 2) w16 w32 (λ (w : Width). number w place memory < 2 ^ 32) (λ f. omega (arith, number_16)) (λ f. number_32))

  tag_below : (count n : ℕ) → tag count place memory ≡ n → n < 2 ^ 32
  tag_below count n e = subst (λ (k : ℕ). k < 2 ^ 32) e (number_any (tag_size count))

signed : (w : Width) (n : ℕ) → n < 2 ^ bits w → FitsSigned w (cast_signed w n)
signed w n h = sfits_to_z {w = w} {n = n} (record { fits = h })

-- Flags.
many_flags : (labels : List (List ℕ)) (n : ℕ) (flags : List Bool) → AreBits labels n flags → length flags ≡ length labels
many_flags [] n [] a = refl
many_flags [] n (f ∷ flags) a = absurd a
many_flags (l ∷ labels) n [] a = absurd a
many_flags (l ∷ labels) n (true ∷ flags) a = ap suc (many_flags labels (n / 2) flags a.1)
many_flags (l ∷ labels) n (false ∷ flags) a = ap suc (many_flags labels (n / 2) flags a.1)

few_flags : (labels : List (List ℕ)) (n : ℕ) (flags : List Bool) → AreBits labels n flags → bits_of flags ≤ n
few_flags [] n [] a = omega arith
few_flags [] n (f ∷ flags) a = absurd a
few_flags (l ∷ labels) n [] a = absurd a
few_flags (l ∷ labels) n (true ∷ flags) a = omega (arith, a.0, few_flags labels (n / 2) flags a.1)
few_flags (l ∷ labels) n (false ∷ flags) a = omega (arith, a.0, few_flags labels (n / 2) flags a.1)

flags_of : (labels : List (List ℕ)) (n : ℕ) (flags : List Bool) → AreBits labels n flags → n < 2 ^ 32 → IsOf (leaves.Flags labels) (plain.Flags flags)
flags_of labels n flags a low = flags_are labels flags (many_flags labels n flags a) (omega (arith, few_flags labels n flags a, low))

mutual
  pub standing : {memory : List ℕ} {place : ℕ} {t : ValType} {v : Value} → Stands memory place t v → EachByte memory → IsOf t v
  standing (false_stands place e) bytes = bool_is false
  standing (true_stands place e) bytes = bool_is true
  standing {memory = m} (s8_stands place) bytes = s8_is (cast_signed w8 (number w8 place m)) (signed w8 (number w8 place m) (number_8 m bytes place))
  standing {memory = m} (u8_stands place) bytes = u8_is (number w8 place m) (number_8 m bytes place)
  standing {memory = m} (s16_stands place) bytes = s16_is (cast_signed w16 (number w16 place m)) (signed w16 (number w16 place m) (number_16 m bytes place))
  standing {memory = m} (u16_stands place) bytes = u16_is (number w16 place m) (number_16 m bytes place)
  standing {memory = m} (s32_stands place) bytes = s32_is (cast_signed w32 (number w32 place m)) (signed w32 (number w32 place m) (number_32 m bytes place))
  standing {memory = m} (u32_stands place) bytes = u32_is (number w32 place m) (number_32 m bytes place)
  standing {memory = m} (s64_stands place) bytes = s64_is (cast_signed w64 (number w64 place m)) (signed w64 (number w64 place m) (number_64 m bytes place))
  standing {memory = m} (u64_stands place) bytes = u64_is (number w64 place m) (number_64 m bytes place)
  standing {memory = m} (char_stands place h) bytes = char_is (number w32 place m) h
  standing {memory = m} (own_stands place resource) bytes = own_is resource (number w32 place m) (number_32 m bytes place)
  standing {memory = m} (borrow_stands place resource) bytes = borrow_is resource (number w32 place m) (number_32 m bytes place)
  standing {memory = m} (stream_stands place element) bytes = stream_is element (number w32 place m) (number_32 m bytes place)
  standing {memory = m} (future_stands place element) bytes = future_is element (number w32 place m) (number_32 m bytes place)
  standing {memory = m} (string_stands place at count e f inside utf8) bytes = string_is (bytes_at at count m) utf8
  standing (list_stands place at element all e f aligned inside are) bytes = list_is element all (elements_standing are bytes)
  standing (record_stands place fields all are) bytes = record_is fields all (fields_standing are bytes)
  standing (tuple_stands place parts all are) bytes = tuple_is parts all (fields_standing are bytes)
  standing {memory = m} (flags_stand place labels flags a) bytes =
      flags_of labels (number (width_of (bits_size (length labels))) place m) flags a (number_any m bytes place (bits_size (length labels)))
  standing {memory = m} (case_stands place n cases c payload e there p) bytes = case_is n cases c payload (tag_below m bytes place (length cases) n e) there (payload_standing p bytes)
  standing {memory = m} (enum_stands place n labels e few) bytes = enum_is n labels (tag_below m bytes place (length labels) n e) few
  standing (none_stands place part e) bytes = none_is part
  standing (some_stands place part payload e p) bytes = some_is part payload (payload_standing p bytes)
  standing (ok_stands place ok err payload e p) bytes = ok_is ok err payload (payload_standing p bytes)
  standing (err_stands place ok err payload e p) bytes = err_is ok err payload (payload_standing p bytes)

  pub elements_standing : {memory : List ℕ} {at : ℕ} {element : ValType} {all : List Value} → AreElements memory at element all → EachByte memory → AllAre element all
  elements_standing (no_elements at element) bytes = none_are element
  elements_standing (more_elements at element v all s are) bytes = more_are element v all (standing s bytes) (elements_standing are bytes)

  fields_standing : {memory : List ℕ} {place end : ℕ} {types : List ValType} {all : List Value} → AreFields memory place end types all → EachByte memory → EachIs types all
  fields_standing (no_fields place end) bytes = no_types
  fields_standing (more_fields place end t types v all s are) bytes = more_types t types v all (standing s bytes) (fields_standing are bytes)

  payload_standing : {memory : List ℕ} {place : ℕ} {p : Option ValType} {payload : Option Value} → IsPayload memory place p payload → EachByte memory → PayloadIs p payload
  payload_standing (no_payload place) bytes = no_payload_is
  payload_standing (payload_stands place t v s) bytes = payload_is t v (standing s bytes)

-- Core values of their types.
first_32 : (ts us : List CoreType) (w : ℕ) (ws : List ℕ) → ts ≡ I32 ∷ us → AreWords ts (w ∷ ws) → w < 2 ^ 32
first_32 ts us w ws e a = let b : AreWords (I32 ∷ us) (w ∷ ws) = subst (λ (l : List CoreType). AreWords l (w ∷ ws)) e a in b.0

first_64 : (ts us : List CoreType) (w : ℕ) (ws : List ℕ) → ts ≡ I64 ∷ us → AreWords ts (w ∷ ws) → w < 2 ^ 64
first_64 ts us w ws e a = let b : AreWords (I64 ∷ us) (w ∷ ws) = subst (λ (l : List CoreType). AreWords l (w ∷ ws)) e a in b.0

are_split : (ts us : List CoreType) (ws vs : List ℕ) → length ws ≡ length ts → AreWords (ts ++ us) (ws ++ vs) → AreWords ts ws × AreWords us vs
are_split [] us [] vs e a = (tt, a)
are_split [] us (w ∷ ws) vs e a = absurd (omega (arith, e))
are_split (t ∷ ts) us [] vs e a = absurd (omega (arith, e))
are_split (I32 ∷ ts) us (w ∷ ws) vs e a =
    let r = are_split ts us ws vs (omega (arith, e)) a.1 in
    ((a.0, r.0), r.1)
are_split (I64 ∷ ts) us (w ∷ ws) vs e a =
    let r = are_split ts us ws vs (omega (arith, e)) a.1 in
    ((a.0, r.0), r.1)

wrapped_are : (ts : List CoreType) (ws : List ℕ) → length ts ≤ length ws → AreWords ts (wrapped ts ws)
wrapped_are [] ws h = tt
wrapped_are (t ∷ ts) [] h = absurd (omega (arith, h))
wrapped_are (I32 ∷ ts) (w ∷ ws) h = ((let p : w % 2 ^ 32 < 2 ^ 32 = omega arith in p), wrapped_are ts ws (omega (arith, h)))
wrapped_are (I64 ∷ ts) (w ∷ ws) h = ((let p : w % 2 ^ 64 < 2 ^ 64 = omega arith in p), wrapped_are ts ws (omega (arith, h)))

low_8 : (w : ℕ) → w % 2 ^ 8 < 2 ^ 8
low_8 w = omega arith

low_16 : (w : ℕ) → w % 2 ^ 16 < 2 ^ 16
low_16 w = omega arith

-- The core values behind the number of a case are enough for its payload.
record HasPayload (n : ℕ) (p : Option ValType) (words : List ℕ) : Type 0 where
  pub low : n < 2 ^ 32
  pub room : (q : ValType) → p ≡ Some q → length (flat q) ≤ length words

case_words : (t : ValType) (y : F.ValType-F ValType Case Field) (n : ℕ) (p : Option ValType) (words : List ℕ) → out-ValType t ≡ y → HasCases y → part_in (parts_case y) n ≡ p
    → AreWords (flat t) (n ∷ words) → HasPayload n p words
case_words t y n p words e kind at a =
    let s : Shares y = shares y kind in
    let is : flat t ≡ I32 ∷ s.types = types_of t y e ∙ s.is in
    let many : length (flat t) ≡ suc (length s.types) = ap (λ (ts : List CoreType). length ts) is in
    let count : length (n ∷ words) ≡ length (flat t) = words_many (flat t) (n ∷ words) a in
    record {
      low = first_32 (flat t) s.types n words is a;
      room = λ q f. omega (arith, many, count, below_length (flat q) s.types (s.below n q (at ∙ f)));
    }

mutual
  pub flat_standing : {memory : List ℕ} {t : ValType} {v : Value} {words : List ℕ} → FlatOf memory t v words → EachByte memory → AreWords (flat t) words → IsOf t v
  flat_standing false_flat bytes a = bool_is false
  flat_standing (true_flat w n) bytes a = bool_is true
  flat_standing (s8_flat w) bytes a = s8_is (cast_signed w8 (w % 2 ^ 8)) (signed w8 (w % 2 ^ 8) (low_8 w))
  flat_standing (u8_flat w) bytes a = u8_is (w % 2 ^ 8) (low_8 w)
  flat_standing (s16_flat w) bytes a = s16_is (cast_signed w16 (w % 2 ^ 16)) (signed w16 (w % 2 ^ 16) (low_16 w))
  flat_standing (u16_flat w) bytes a = u16_is (w % 2 ^ 16) (low_16 w)
  flat_standing (s32_flat w) bytes a = s32_is (cast_signed w32 w) (signed w32 w (first_32 (flat leaves.S32) [] w [] (types_of leaves.S32 F.S32 out_s32) a))
  flat_standing (u32_flat w) bytes a = u32_is w (first_32 (flat leaves.U32) [] w [] (types_of leaves.U32 F.U32 out_u32) a)
  flat_standing (s64_flat w) bytes a = s64_is (cast_signed w64 w) (signed w64 w (first_64 (flat leaves.S64) [] w [] (types_of leaves.S64 F.S64 out_s64) a))
  flat_standing (u64_flat w) bytes a = u64_is w (first_64 (flat leaves.U64) [] w [] (types_of leaves.U64 F.U64 out_u64) a)
  flat_standing (char_flat w h) bytes a = char_is w h
  flat_standing (own_flat resource w) bytes a = own_is resource w (first_32 (flat (leaves.Own resource)) [] w [] (types_of (leaves.Own resource) (F.Own resource) (out_own resource)) a)
  flat_standing (borrow_flat resource w) bytes a = borrow_is resource w (first_32 (flat (leaves.Borrow resource)) [] w [] (types_of (leaves.Borrow resource) (F.Borrow resource) (out_borrow resource)) a)
  flat_standing (stream_flat element w) bytes a = stream_is element w (first_32 (flat (types.Stream element)) [] w [] (flat_of_stream element) a)
  flat_standing (future_flat element w) bytes a = future_is element w (first_32 (flat (types.Future element)) [] w [] (flat_of_future element) a)
  flat_standing {memory = m} (string_flat at count inside utf8) bytes a = string_is (bytes_at at count m) utf8
  flat_standing (list_flat at element all aligned inside are) bytes a = list_is element all (elements_standing are bytes)
  flat_standing (record_flat fields all words are) bytes a = record_is fields all (row_standing are bytes (subst (λ (ts : List CoreType). AreWords ts words) (flat_of_record fields) a))
  flat_standing (tuple_flat parts all words are) bytes a = tuple_is parts all (row_standing are bytes (subst (λ (ts : List CoreType). AreWords ts words) (flat_of_tuple parts) a))
  flat_standing (flags_flat labels flags w b) bytes a = flags_of labels w flags b (first_32 (flat (leaves.Flags labels)) [] w [] (types_of (leaves.Flags labels) (F.Flags labels) (out_flags labels)) a)
  flat_standing (case_flat n cases c payload words there p) bytes a =
      let h = case_words (types.Variant cases) (F.Variant cases) n c.payload words (out_variant cases) tt (case_part cases n c there) a in
      case_is n cases c payload h.low there (paid_standing p bytes h.room)
  flat_standing (enum_flat n labels few) bytes a = enum_is n labels (case_words (leaves.Enum labels) (F.Enum labels) n None [] (out_enum labels) tt refl a).low few
  flat_standing (none_flat part words) bytes a = none_is part
  flat_standing (some_flat part payload words p) bytes a =
      some_is part payload (paid_standing p bytes (case_words (types.Option part) (F.Option part) 1 (Some part) words (out_option part) tt refl a).room)
  flat_standing (ok_flat ok err payload words p) bytes a =
      ok_is ok err payload (paid_standing p bytes (case_words (types.Result ok err) (F.Result ok err) 0 ok words (out_result ok err) tt refl a).room)
  flat_standing (err_flat ok err payload words p) bytes a =
      err_is ok err payload (paid_standing p bytes (case_words (types.Result ok err) (F.Result ok err) 1 err words (out_result ok err) tt refl a).room)

  row_standing : {memory : List ℕ} {types : List ValType} {all : List Value} {words : List ℕ} → AreFlat memory types all words → EachByte memory → AreWords (all_of (map flat types)) words
      → EachIs types all
  row_standing no_flat bytes a = no_types
  row_standing (more_flat t types v all words others many s are) bytes a =
      let r = are_split (flat t) (all_of (map flat types)) words others many a in
      more_types t types v all (flat_standing s bytes r.0) (row_standing are bytes r.1)

  paid_standing : {memory : List ℕ} {p : Option ValType} {payload : Option Value} {words : List ℕ} → IsFlatPayload memory p payload words → EachByte memory
      → ((q : ValType) → p ≡ Some q → length (flat q) ≤ length words) → PayloadIs p payload
  paid_standing (no_flat_payload words) bytes room = no_payload_is
  paid_standing (flat_payload_of t v words s) bytes room = payload_is t v (flat_standing s bytes (wrapped_are (flat t) words (room t refl)))

-- The laws.
pub standing_values_are : StandingValuesAre
standing_values_are type memory place v bytes s = standing s (each_byte memory bytes)

pub standing_lists_are : StandingListsAre
standing_lists_are type memory place all bytes are = elements_standing are (each_byte memory bytes)

pub flattened_values_are : FlattenedValuesAre
flattened_values_are type memory words v bytes is = flat_standing is.stands (each_byte memory bytes) is.typed

pub loaded_values_are : LoadedValuesAre
loaded_values_are what type memory place v bytes h = standing ((loaded_values_stand what type memory place v).0 h).stored.stands (each_byte memory bytes)

pub loaded_lists_are : LoadedListsAre
loaded_lists_are type memory place zero all bytes h = subst (λ (l : List Value). AllAre type l) (ok_same [] all h) (none_are type)
loaded_lists_are type memory place (suc count) all bytes h = elements_standing ((loaded_lists_stand type memory place (suc count) all (omega arith)).0 h).stored.stand (each_byte memory bytes)

value_was : (l : Lifted Value) (v : Value) → value_of l ≡ Ok v → (rest : ℕ) × (l ≡ Ok (v, rest))
value_was (Ok x) v h = (x.1, ap (λ (w : Value). (let r : Lifted Value = Ok (w, x.1) in r)) (ok_same x.0 v h))
value_was (Err e) v h = cc

pub lifted_values_are : LiftedValuesAre
lifted_values_are what type memory words v bytes many h =
    let w = value_was (lift_words type memory words 0 (most what)) v h in
    let f = word_told_type type memory words 0 (most what) w.0 v (omega (arith, many)) w.1 in
    flat_standing f.stands (each_byte memory bytes) (wrapped_are (flat type) words (omega (arith, many)))
