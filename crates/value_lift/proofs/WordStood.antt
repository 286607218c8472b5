-- What core values stand for is lifted.
use Rattle.std.proofs.Common.{◌≡◌, ◌∙◌, ◌≤◌, ◌<◌, ◌+◌, ◌-◌, ◌*◌, ◌%◌, ◌^◌, ℕ, suc, Bool, true, false, List, [], ◌∷◌, ◌++◌, map, length, drop, Option, Some, None, Ok, Err, Result, refl, ap, sym, subst, arith, append_assoc, append-nil, length-append, length-drop, slice_index}
use Rattle.std.specs.Option.{option_map}
use Rattle.std.specs.Int.{w8, w16, w32, w64, cast_signed}
use Rattle.std.specs.Prelude.{nat_lt, if◌then◌else◌}
use Rattle.std.specs.Str.{IsUtf8}
use Rattle.std.proofs.lemmas.Bool.{cond-true, le-leb, lt-ltb, eq-eqb, ne_eqb}
use Rattle.syntax_trees.specs.declared.core_type.CoreType.{CoreType}
use Rattle.syntax_trees.specs.declared.core_type.CoreType.TheVariants.{I32, I64}
use Rattle.syntax_trees.specs.declared.types.ValType.{ValType, out-ValType}
use Rattle.syntax_trees.specs.declared.types.Case.{Case}
use Rattle.syntax_trees.specs.declared.types.Field.{Field}
use Rattle.syntax_trees.specs.declared.types.ValType.TheOpen as F
use Rattle.syntax_trees.specs.declared.types.ValType.TheViews as types
use Rattle.syntax_trees.specs.declared.types.ValType.TheVariants as leaves
use Rattle.syntax_trees.specs.declared.value.Value.{Value}
use Rattle.syntax_trees.specs.declared.value.Value.TheViews as values
use Rattle.syntax_trees.specs.declared.value.Value.TheVariants as plain
use Rattle.laid_types.specs.Layout.{laid}
use Rattle.syntax_trees.specs.Flat.{flat, flat_step, all_of}
use Rattle.laid_types.specs.Parts.{parts_of, parts_case, count_case}
use Rattle.value_lift.specs.declared.trap.LiftTrap.{LiftTrap}
use Rattle.value_lift.specs.declared.trap.LiftWhy.TheVariants.{Bounds}
use Rattle.value_lift.specs.Bytes.{bytes_at, is_scalar, is_aligned, is_inside, flags_from}
use Rattle.value_lift.specs.Answers.{Lifted, trap, after, made, uncounted, counting}
use Rattle.value_lift.specs.Pieces.{Part, plain_of, part_in, string_of, elements_from, elements_of, list_of, chosen, char_of}
use Rattle.value_lift.specs.Lifting.{lift_words, lift_word_case, layer_of, part, parts, low, word_fields_from, word_payload_of, word_case_of}
use Rattle.value_lift.specs.Standing.{AreBits, total, counts}
use Rattle.value_lift.specs.WordStanding.{wrapped, FlatOf, AreFlat, IsFlatPayload, false_flat, true_flat, s8_flat, u8_flat, s16_flat, u16_flat, s32_flat, u32_flat, s64_flat, u64_flat, char_flat, own_flat, borrow_flat, stream_flat, future_flat, string_flat, list_flat, record_flat, tuple_flat, flags_flat, case_flat, enum_flat, none_flat, some_flat, ok_flat, err_flat, no_flat, more_flat, no_flat_payload, flat_payload_of}
use Rattle.value_lift.proofs.Equations.{lift_words_is, parts_in, flats_in, flat_is}
use Rattle.value_lift.proofs.Forms.{IsPlain, IsRow, HasCases, plain_words, row_words, cases_words}
use Rattle.value_lift.proofs.Lists.{part_image}
use Rattle.value_lift.proofs.Views.{out_bool, out_s8, out_u8, out_s16, out_u16, out_s32, out_u32, out_own, out_borrow, out_stream, out_future, out_s64, out_u64, out_char, out_string, out_flags, out_enum, out_record, out_tuple, out_list, out_variant, out_option, out_result, count_bool, count_s8, count_u8, count_s16, count_u16, count_s32, count_u32, count_own, count_borrow, count_stream, count_future, count_s64, count_u64, count_char, count_string, count_flags, count_list, count_record, count_variant, payload_counts}
use Rattle.value_lift.proofs.Stood.{done, same_done, counts_one, string_told, bytes_length, elements_stood, bits_told, case_within, case_part, parts_of_record, parts_of_tuple, told_bool}
use Rattle.value_lift.proofs.Wrapped.{wrapped_32, wrapped_64, wrapped_parts, wrapped_many, same_parts, low_8, low_16, wrapped_below, below_length, shares}

-- a value that is lifted from these core values, of which these are the wrapped ones
pub record IsThere (t : ValType) (memory words : List ℕ) (at : ℕ) (ws : List ℕ) : Type 0 where
  pub are : ws ≡ wrapped (flat t) (drop at words)
  pub room : at + length (flat t) ≤ length words

reached : (t : ValType) (memory words : List ℕ) (at left : ℕ) → 1 ≤ left → lift_words t memory words at left ≡ lift_word_case (layer_of t) memory words at (left - 1)
reached t memory words at left h =
    lift_words_is t memory words at left ∙ ap (λ (r : Result ℕ LiftTrap). counting r (λ left. lift_word_case (layer_of t) memory words at left)) (counts_one at left h)

abbrev IsLifted : ValType → List ℕ → List ℕ → ℕ → ℕ → Value → Type 0
IsLifted t memory words at left v = lift_words t memory words at left ≡ Ok (v, left - counts v)

-- the core types of types without parts
abbrev HasFlat : ValType → List CoreType → Type 0
HasFlat t ts = flat t ≡ ts

pub flat_at : (t : ValType) (y : F.ValType-F ValType Case Field) → out-ValType t ≡ y → flat t ≡ flat_step (flats_in y)
flat_at t y e = flat_is t ∙ ap (λ (y : F.ValType-F ValType Case Field). flat_step (flats_in y)) e

module _ (t : ValType) (memory words : List ℕ) (at : ℕ) where
  -- the one core value of a type, and the first of several
  pub one_32 : (w : ℕ) (ws : List ℕ) (ts : List CoreType) → flat t ≡ I32 ∷ ts → IsThere t memory words at (w ∷ ws) → (w ≡ low w32 at words) × (ws ≡ wrapped ts (drop (at + 1) words))
  one_32 w ws ts f is =
      let many : length (flat t) ≡ suc (length ts) = ap (λ (l : List CoreType). length l) f in
      let e : w ∷ ws ≡ low w32 at words ∷ wrapped ts (drop (at + 1) words) =
      is.are ∙ ap (λ (l : List CoreType). wrapped l (drop at words)) f ∙ wrapped_32 ts words at (omega (arith, is.room, many)) in
      (cc, cc)

  one_64 : (w : ℕ) (ws : List ℕ) (ts : List CoreType) → flat t ≡ I64 ∷ ts → IsThere t memory words at (w ∷ ws) → w ≡ low w64 at words
  one_64 w ws ts f is =
      let many : length (flat t) ≡ suc (length ts) = ap (λ (l : List CoreType). length l) f in
      let e : w ∷ ws ≡ low w64 at words ∷ wrapped ts (drop (at + 1) words) =
      is.are ∙ ap (λ (l : List CoreType). wrapped l (drop at words)) f ∙ wrapped_64 ts words at (omega (arith, is.room, many)) in
      cc

  plain_stood : (y : F.ValType-F ValType Case Field) (v : Value) (left : ℕ) → out-ValType t ≡ y → IsPlain y
      → plain_of y w32 (λ w. low w at words) at ≡ Ok v → counts v ≡ 1 → counts v ≤ left → IsLifted t memory words at left v
  plain_stood y v left e kind told count h =
      reached t memory words at left (omega (arith, count, h))
      ∙ plain_words memory words at (left - 1) t (subst IsPlain (sym e) kind)
      ∙ ap (λ (y : F.ValType-F ValType Case Field). uncounted (left - 1) (plain_of y w32 (λ w. low w at words) at)) e
      ∙ ap (λ (r : Result Value LiftTrap). uncounted (left - 1) r) told
      ∙ ap (λ (n : ℕ). done v (left - n)) (sym count)

  list_stood : (element : ValType) (all : List Value) (from left : ℕ) → out-ValType t ≡ F.List element → from ≡ low w32 at words → length all ≡ low w32 (at + 1) words
      → from % (laid element).align ≡ 0 → from + length all * (laid element).size ≤ length memory → counts (values.List all) ≤ left
      → elements_from (part element) memory [] (length all) from (left - 1) ≡ done all (left - 1 - total (map counts all))
      → IsLifted t memory words at left (values.List all)
  list_stood element all from left o e f aligned inside h elements =
      let size : counts (values.List all) ≡ suc (total (map counts all)) = count_list all in
      let found : Lifted (List Value) = elements_from (part element) memory [] (length all) from (left - 1) in
      let told : elements_of (part element) from (length all) memory at (left - 1) ≡ done all (left - 1 - total (map counts all)) =
      cond-true (is_aligned from (laid element).align) (if is_inside from (length all * (laid element).size) memory then found else Err (trap Bounds at)) _ (eq-eqb (from % (laid element).align) 0 aligned)
      ∙ cond-true (is_inside from (length all * (laid element).size) memory) found _ (le-leb (from + length all * (laid element).size) (length memory) inside)
      ∙ elements in
      reached t memory words at left (omega (arith, size, h))
      ∙ ap (λ (y : F.ValType-F ValType Case Field). lift_word_case (parts_in y) memory words at (left - 1)) o
      ∙ ap (λ (n : ℕ). list_of (Some (part element) ∷ []) n (low w32 (at + 1) words) memory at (left - 1)) (sym e)
      ∙ ap (λ (n : ℕ). list_of (Some (part element) ∷ []) from n memory at (left - 1)) (sym f)
      ∙ ap (λ (r : Lifted (List Value)). made values.List r) told
      ∙ ap (λ (n : ℕ). done (values.List all) n) (let k : left - 1 - total (map counts all) ≡ left - counts (values.List all) = omega (arith, size) in k)

  string_stood : (from count left : ℕ) → out-ValType t ≡ F.String → from ≡ low w32 at words → count ≡ low w32 (at + 1) words → from + count ≤ length memory
      → IsUtf8 (bytes_at from count memory) → counts (plain.String (bytes_at from count memory)) ≤ left → IsLifted t memory words at left (plain.String (bytes_at from count memory))
  string_stood from count left o e f inside utf8 h =
      let size : counts (plain.String (bytes_at from count memory)) ≡ suc count = count_string (bytes_at from count memory) ∙ ap suc (bytes_length from count memory inside) in
      reached t memory words at left (omega (arith, size, h))
      ∙ ap (λ (y : F.ValType-F ValType Case Field). lift_word_case (parts_in y) memory words at (left - 1)) o
      ∙ ap (λ (n : ℕ). string_of n (low w32 (at + 1) words) memory at (left - 1)) (sym e)
      ∙ ap (λ (n : ℕ). string_of from n memory at (left - 1)) (sym f)
      ∙ string_told from count memory at (left - 1) inside utf8 (omega (arith, size, h))
      ∙ ap (λ (n : ℕ). done (plain.String (bytes_at from count memory)) n) (let k : left - 1 - count ≡ left - counts (plain.String (bytes_at from count memory)) = omega (arith, size) in k)

  flags_stood : (labels : List (List ℕ)) (flags : List Bool) (w left : ℕ) → out-ValType t ≡ F.Flags labels → w ≡ low w32 at words → AreBits labels w flags
      → counts (plain.Flags flags) ≤ left → IsLifted t memory words at left (plain.Flags flags)
  flags_stood labels flags w left o e a h =
      reached t memory words at left (omega (arith, count_flags flags, h))
      ∙ ap (λ (y : F.ValType-F ValType Case Field). lift_word_case (parts_in y) memory words at (left - 1)) o
      ∙ ap (λ (n : ℕ). done (plain.Flags (flags_from [] labels n)) (left - 1)) (sym e)
      ∙ ap (λ (fs : List Bool). done (plain.Flags fs) (left - 1)) (bits_told labels w flags [] a)
      ∙ ap (λ (n : ℕ). done (plain.Flags flags) (left - n)) (sym (count_flags flags))

  row_stood : (types : List ValType) (all : List Value) (left : ℕ) → IsRow (out-ValType t) → parts_of t ≡ map (λ (t : ValType). Some t) types → counts (values.Record all) ≤ left
      → word_fields_from memory words [] at (parts (map (λ (t : ValType). Some t) types)) (left - 1) ≡ done all (left - 1 - total (map counts all))
      → IsLifted t memory words at left (values.Record all)
  row_stood types all left row e h fields =
      let size : counts (values.Record all) ≡ suc (total (map counts all)) = count_record all in
      reached t memory words at left (omega (arith, size, h))
      ∙ row_words memory words at (left - 1) t row
      ∙ ap (λ (ts : List (Option ValType)). made values.Record (word_fields_from memory words [] at (parts ts) (left - 1))) e
      ∙ ap (λ (r : Lifted (List Value)). made values.Record r) fields
      ∙ ap (λ (n : ℕ). done (values.Record all) n) (let k : left - 1 - total (map counts all) ≡ left - counts (values.Record all) = omega (arith, size) in k)

  case_stood : (n : ℕ) (y : F.ValType-F ValType Case Field) (p : Option ValType) (payload : Option Value) (left : ℕ) → out-ValType t ≡ y → HasCases y → n ≡ low w32 at words
      → n < count_case y → part_in (parts_case y) n ≡ p → counts (values.Variant n payload) ≤ left
      → word_payload_of (option_map part p) memory words (at + 1) (left - 1) ≡ done payload (left - 1 - payload_counts payload)
      → IsLifted t memory words at left (values.Variant n payload)
  case_stood n y p payload left o kind e low_n part_is h found =
      let size : counts (values.Variant n payload) ≡ suc (payload_counts payload) = count_variant n payload in
      let has : HasCases (out-ValType t) = subst HasCases (sym o) kind in
      let here : part_in (parts (parts_case y)) n ≡ option_map part p = part_image (parts_case y) n ∙ ap (λ (o : Option ValType). option_map part o) part_is in
      reached t memory words at left (omega (arith, size, h))
      ∙ cases_words memory words at (left - 1) t has
      ∙ ap (λ (y : F.ValType-F ValType Case Field). word_case_of (count_case y) (parts (parts_case y)) memory words at (left - 1)) o
      ∙ ap (λ (k : ℕ). chosen k (count_case y) at (word_payload_of (part_in (parts (parts_case y)) k) memory words (at + 1) (left - 1))) (sym e)
      ∙ ap (λ (o : Option Part). chosen n (count_case y) at (word_payload_of o memory words (at + 1) (left - 1))) here
      ∙ ap (λ (r : Lifted (Option Value)). chosen n (count_case y) at r) found
      ∙ cond-true (nat_lt n (count_case y)) _ _ (lt-ltb n (count_case y) low_n)
      ∙ ap (λ (k : ℕ). done (values.Variant n payload) k) (let k : left - 1 - payload_counts payload ≡ left - counts (values.Variant n payload) = omega (arith, size) in k)

-- A payload that is there, in what payloads share.
pub record IsPayloadThere (p : Option ValType) (memory words : List ℕ) (at : ℕ) (ws : List ℕ) : Type 0 where
  pub each : (t : ValType) → p ≡ Some t → IsThere t memory words at (wrapped (flat t) ws)

pub payload_there : (t : ValType) (memory words : List ℕ) (at n : ℕ) (y : F.ValType-F ValType Case Field) (p : Option ValType) (ws : List ℕ) → out-ValType t ≡ y → (kind : HasCases y)
    → part_in (parts_case y) n ≡ p → IsThere t memory words at (n ∷ ws) → IsPayloadThere p memory words (at + 1) ws
payload_there t memory words at n y p ws o kind part_is is = record {
  each = λ u e.
      let s = shares y kind in
      let f : flat t ≡ I32 ∷ s.types = flat_at t y o ∙ s.is in
      let b = s.below n u (part_is ∙ e) in
      let split = one_32 t memory words at n ws s.types f is in
      let many : length (flat t) ≡ suc (length s.types) = ap (λ (l : List CoreType). length l) f in
      record {
        are = ap (λ (l : List ℕ). wrapped (flat u) l) split.1 ∙ wrapped_below (flat u) s.types (drop (at + 1) words) b;
        room = omega (arith, is.room, many, below_length (flat u) s.types b);
      };
}

-- The core types of records and tuples.
pub flat_of_record : (fields : List Field) → flat (types.Record fields) ≡ all_of (map flat (map (λ (f : Field). f.val_type) fields))
flat_of_record fields = flat_at (types.Record fields) (F.Record fields) (out_record fields) ∙ ap all_of (field_flats fields)
  where
    field_flats : (fields : List Field) → map (λ (f : Field). flat f.val_type) fields ≡ map flat (map (λ (f : Field). f.val_type) fields)
    field_flats [] = refl
    field_flats (f ∷ fields) = ap (λ (l : List (List CoreType)). flat f.val_type ∷ l) (field_flats fields)

pub flat_of_tuple : (parts : List ValType) → flat (types.Tuple parts) ≡ all_of (map flat parts)
flat_of_tuple parts = flat_at (types.Tuple parts) (F.Tuple parts) (out_tuple parts)

-- The core type of an end.
pub flat_of_stream : (element : Option ValType) → flat (types.Stream element) ≡ I32 ∷ []
flat_of_stream None = flat_at (types.Stream None) (F.Stream None) (out_stream None)
flat_of_stream (Some t) = flat_at (types.Stream (Some t)) (F.Stream (Some t)) (out_stream (Some t))

pub flat_of_future : (element : Option ValType) → flat (types.Future element) ≡ I32 ∷ []
flat_of_future None = flat_at (types.Future None) (F.Future None) (out_future None)
flat_of_future (Some t) = flat_at (types.Future (Some t)) (F.Future (Some t)) (out_future (Some t))

-- core values of several types that are there
pub record AreThere (types : List CoreType) (words : List ℕ) (at : ℕ) (ws : List ℕ) : Type 0 where
  pub are : ws ≡ wrapped types (drop at words)
  pub room : at + length types ≤ length words

pub row_there : (t : ValType) (memory words : List ℕ) (at : ℕ) (ws : List ℕ) (types : List CoreType) → flat t ≡ types → IsThere t memory words at ws → AreThere types words at ws
row_there t memory words at ws types e is = record {
  are = is.are ∙ ap (λ (l : List CoreType). wrapped l (drop at words)) e;
  room = subst (λ (l : List CoreType). at + length l ≤ length words) e is.room;
}

-- those of the first part, and those of the others
pub part_there : (t : ValType) (types : List ValType) (words : List ℕ) (at : ℕ) (ws others : List ℕ) → length ws ≡ length (flat t) → AreThere (flat t ++ all_of (map flat types)) words at (ws ++ others)
    → (ws ≡ wrapped (flat t) (drop at words)) × (at + length (flat t) ≤ length words) × AreThere (all_of (map flat types)) words (at + length (flat t)) others
part_there t types words at ws others many is =
    let rest : List CoreType = all_of (map flat types) in
    let size : length (flat t ++ rest) ≡ length (flat t) + length rest = length-append (flat t) rest in
    let room : at + length (flat t) ≤ length words = omega (arith, is.room, size) in
    let left_over : length (drop at words) ≡ length words - at = length-drop at words in
    let here : length (wrapped (flat t) (drop at words)) ≡ length (flat t) = wrapped_many (flat t) (drop at words) (omega (arith, room, left_over)) in
    let split =
    same_parts ws others (wrapped (flat t) (drop at words)) (wrapped rest (drop (at + length (flat t)) words)) (many ∙ sym here)
    (is.are ∙ wrapped_parts (flat t) rest words at room) in
    (split.0, room, record { are = split.1; room = omega (arith, is.room, size) })

-- the second of two core values
pub second_word : (words : List ℕ) (at count : ℕ) (t : ValType) (memory : List ℕ) → flat t ≡ I32 ∷ I32 ∷ [] → at + length (flat t) ≤ length words
    → count ∷ [] ≡ wrapped (I32 ∷ []) (drop (at + 1) words) → count ≡ low w32 (at + 1) words
second_word words at count t memory f room e =
    let many : length (flat t) ≡ 2 = ap (λ (l : List CoreType). length l) f in
    let g : count ∷ [] ≡ low w32 (at + 1) words ∷ [] = e ∙ wrapped_32 [] words (at + 1) (omega (arith, room, many)) in
    cc

-- the number of a case
pub tag_told : (t : ValType) (memory words : List ℕ) (at n : ℕ) (ws : List ℕ) (y : F.ValType-F ValType Case Field) → out-ValType t ≡ y → HasCases y → IsThere t memory words at (n ∷ ws) → n ≡ low w32 at words
tag_told t memory words at n ws y o kind is = (one_32 t memory words at n ws (shares y kind).types (flat_at t y o ∙ (shares y kind).is) is).0

-- narrow integers
narrow_8 : (words : List ℕ) (at w : ℕ) → w ≡ low w32 at words → w % 2 ^ 8 ≡ low w8 at words
narrow_8 words at w e = ap (λ (n : ℕ). n % 2 ^ 8) e ∙ low_8 (slice_index words at)

narrow_16 : (words : List ℕ) (at w : ℕ) → w ≡ low w32 at words → w % 2 ^ 16 ≡ low w16 at words
narrow_16 words at w e = ap (λ (n : ℕ). n % 2 ^ 16) e ∙ low_16 (slice_index words at)

abbrev told_s8 : ℕ → Result Value LiftTrap
told_s8 n = Ok (plain.S8 (cast_signed w8 n))

abbrev told_u8 : ℕ → Result Value LiftTrap
told_u8 n = Ok (plain.U8 n)

abbrev told_s16 : ℕ → Result Value LiftTrap
told_s16 n = Ok (plain.S16 (cast_signed w16 n))

abbrev told_u16 : ℕ → Result Value LiftTrap
told_u16 n = Ok (plain.U16 n)

abbrev told_s32 : ℕ → Result Value LiftTrap
told_s32 n = Ok (plain.S32 (cast_signed w32 n))

abbrev told_own : ℕ → ℕ → Result Value LiftTrap
told_own resource n = Ok (plain.Own (record { resource = resource; rep = n }))

abbrev told_borrow : ℕ → ℕ → Result Value LiftTrap
told_borrow resource n = Ok (plain.Borrow (record { resource = resource; rep = n }))

abbrev told_stream : ℕ → Result Value LiftTrap
told_stream n = Ok (plain.Stream n)

abbrev told_future : ℕ → Result Value LiftTrap
told_future n = Ok (plain.Future n)

abbrev told_u32 : ℕ → Result Value LiftTrap
told_u32 n = Ok (plain.U32 n)

abbrev told_s64 : ℕ → Result Value LiftTrap
told_s64 n = Ok (plain.S64 (cast_signed w64 n))

abbrev told_u64 : ℕ → Result Value LiftTrap
told_u64 n = Ok (plain.U64 n)

mutual
  pub word_stood : {memory : List ℕ} {t : ValType} {v : Value} {ws : List ℕ} → FlatOf memory t v ws → (words : List ℕ) (at left : ℕ) → IsThere t memory words at ws → counts v ≤ left
      → lift_words t memory words at left ≡ Ok (v, left - counts v)
  word_stood {memory = m} false_flat words at left is h =
      let e = one_32 leaves.Bool m words at 0 [] [] (flat_at leaves.Bool F.Bool out_bool) is in
      plain_stood leaves.Bool m words at F.Bool (plain.Bool false) left out_bool tt (ap told_bool (eq-eqb (low w32 at words) 0 (sym e.0))) (count_bool false) h
  word_stood {memory = m} (true_flat w n) words at left is h =
      let e = one_32 leaves.Bool m words at w [] [] (flat_at leaves.Bool F.Bool out_bool) is in
      plain_stood leaves.Bool m words at F.Bool (plain.Bool true) left out_bool tt (ap told_bool (ne_eqb (low w32 at words) 0 (λ z. n (e.0 ∙ z)))) (count_bool true) h
  word_stood {memory = m} (s8_flat w) words at left is h =
      let e = one_32 leaves.S8 m words at w [] [] (flat_at leaves.S8 F.S8 out_s8) is in
      plain_stood leaves.S8 m words at F.S8 _ left out_s8 tt (ap told_s8 (sym (narrow_8 words at w e.0))) (count_s8 _) h
  word_stood {memory = m} (u8_flat w) words at left is h =
      let e = one_32 leaves.U8 m words at w [] [] (flat_at leaves.U8 F.U8 out_u8) is in
      plain_stood leaves.U8 m words at F.U8 _ left out_u8 tt (ap told_u8 (sym (narrow_8 words at w e.0))) (count_u8 _) h
  word_stood {memory = m} (s16_flat w) words at left is h =
      let e = one_32 leaves.S16 m words at w [] [] (flat_at leaves.S16 F.S16 out_s16) is in
      plain_stood leaves.S16 m words at F.S16 _ left out_s16 tt (ap told_s16 (sym (narrow_16 words at w e.0))) (count_s16 _) h
  word_stood {memory = m} (u16_flat w) words at left is h =
      let e = one_32 leaves.U16 m words at w [] [] (flat_at leaves.U16 F.U16 out_u16) is in
      plain_stood leaves.U16 m words at F.U16 _ left out_u16 tt (ap told_u16 (sym (narrow_16 words at w e.0))) (count_u16 _) h
  word_stood {memory = m} (s32_flat w) words at left is h =
      let e = one_32 leaves.S32 m words at w [] [] (flat_at leaves.S32 F.S32 out_s32) is in
      plain_stood leaves.S32 m words at F.S32 _ left out_s32 tt (ap told_s32 (sym e.0)) (count_s32 _) h
  word_stood {memory = m} (u32_flat w) words at left is h =
      let e = one_32 leaves.U32 m words at w [] [] (flat_at leaves.U32 F.U32 out_u32) is in
      plain_stood leaves.U32 m words at F.U32 _ left out_u32 tt (ap told_u32 (sym e.0)) (count_u32 _) h
  word_stood {memory = m} (own_flat resource w) words at left is h =
      let e = one_32 (leaves.Own resource) m words at w [] [] (flat_at (leaves.Own resource) (F.Own resource) (out_own resource)) is in
      plain_stood (leaves.Own resource) m words at (F.Own resource) _ left (out_own resource) tt (ap (told_own resource) (sym e.0)) (count_own _) h
  word_stood {memory = m} (borrow_flat resource w) words at left is h =
      let e = one_32 (leaves.Borrow resource) m words at w [] [] (flat_at (leaves.Borrow resource) (F.Borrow resource) (out_borrow resource)) is in
      plain_stood (leaves.Borrow resource) m words at (F.Borrow resource) _ left (out_borrow resource) tt (ap (told_borrow resource) (sym e.0)) (count_borrow _) h
  word_stood {memory = m} (stream_flat element w) words at left is h =
      let e = one_32 (types.Stream element) m words at w [] [] (flat_of_stream element) is in
      plain_stood (types.Stream element) m words at (F.Stream element) _ left (out_stream element) tt (ap told_stream (sym e.0)) (count_stream _) h
  word_stood {memory = m} (future_flat element w) words at left is h =
      let e = one_32 (types.Future element) m words at w [] [] (flat_of_future element) is in
      plain_stood (types.Future element) m words at (F.Future element) _ left (out_future element) tt (ap told_future (sym e.0)) (count_future _) h
  word_stood {memory = m} (s64_flat w) words at left is h =
      let e = one_64 leaves.S64 m words at w [] [] (flat_at leaves.S64 F.S64 out_s64) is in
      plain_stood leaves.S64 m words at F.S64 _ left out_s64 tt (ap told_s64 (sym e)) (count_s64 _) h
  word_stood {memory = m} (u64_flat w) words at left is h =
      let e = one_64 leaves.U64 m words at w [] [] (flat_at leaves.U64 F.U64 out_u64) is in
      plain_stood leaves.U64 m words at F.U64 _ left out_u64 tt (ap told_u64 (sym e)) (count_u64 _) h
  word_stood {memory = m} (char_flat w s) words at left is h =
      let e = one_32 leaves.Char m words at w [] [] (flat_at leaves.Char F.Char out_char) is in
      plain_stood leaves.Char m words at F.Char (plain.Char w) left out_char tt (ap (λ (n : ℕ). char_of n at) (sym e.0) ∙ cond-true (is_scalar w) _ _ s) (count_char w) h
  word_stood {memory = m} (string_flat from count inside utf8) words at left is h =
      let e = one_32 leaves.String m words at from (count ∷ []) (I32 ∷ []) (flat_at leaves.String F.String out_string) is in
      string_stood leaves.String m words at from count left out_string e.0 (second_word words at count leaves.String m (flat_at leaves.String F.String out_string) is.room e.1) inside utf8 h
  word_stood {memory = m} (list_flat from element all aligned inside a) words at left is h =
      let e = one_32 (types.List element) m words at from (length all ∷ []) (I32 ∷ []) (flat_at (types.List element) (F.List element) (out_list element)) is in
      list_stood (types.List element) m words at element all from left (out_list element) e.0
      (second_word words at (length all) (types.List element) m (flat_at (types.List element) (F.List element) (out_list element)) is.room e.1) aligned inside h
      (elements_stood a [] (left - 1) (omega (arith, count_list all, h)))
  word_stood {memory = m} (record_flat fields all ws a) words at left is h =
      row_stood (types.Record fields) m words at (map (λ (f : Field). f.val_type) fields) all left (subst IsRow (sym (out_record fields)) tt) (parts_of_record fields) h
      (fields_stood a words at [] (left - 1) (row_there (types.Record fields) m words at ws (all_of (map flat (map (λ (f : Field). f.val_type) fields))) (flat_of_record fields) is) (omega (arith, count_record all, h)))
  word_stood {memory = m} (tuple_flat parts all ws a) words at left is h =
      row_stood (types.Tuple parts) m words at parts all left (subst IsRow (sym (out_tuple parts)) tt) (parts_of_tuple parts) h
      (fields_stood a words at [] (left - 1) (row_there (types.Tuple parts) m words at ws (all_of (map flat parts)) (flat_of_tuple parts) is) (omega (arith, count_record all, h)))
  word_stood {memory = m} (flags_flat labels flags w a) words at left is h =
      let e = one_32 (leaves.Flags labels) m words at w [] [] (flat_at (leaves.Flags labels) (F.Flags labels) (out_flags labels)) is in
      flags_stood (leaves.Flags labels) m words at labels flags w left (out_flags labels) e.0 a h
  word_stood {memory = m} (case_flat n cases c payload ws there p) words at left is h =
      case_stood (types.Variant cases) m words at n (F.Variant cases) c.payload payload left (out_variant cases) tt (tag_told (types.Variant cases) m words at n ws (F.Variant cases) (out_variant cases) tt is)
      (case_within cases n c there) (case_part cases n c there) h
      (payload_stood p words (at + 1) (left - 1) (payload_there (types.Variant cases) m words at n (F.Variant cases) c.payload ws (out_variant cases) tt (case_part cases n c there) is) (omega (arith, count_variant n payload, h)))
  word_stood {memory = m} (enum_flat n labels low_n) words at left is h =
      case_stood (leaves.Enum labels) m words at n (F.Enum labels) None None left (out_enum labels) tt (tag_told (leaves.Enum labels) m words at n [] (F.Enum labels) (out_enum labels) tt is) low_n refl h
      (same_done None None (left - 1) (left - 1 - 0) refl (omega arith))
  word_stood {memory = m} (none_flat part ws) words at left is h =
      case_stood (types.Option part) m words at 0 (F.Option part) None None left (out_option part) tt (tag_told (types.Option part) m words at 0 ws (F.Option part) (out_option part) tt is) (omega arith) refl h
      (same_done None None (left - 1) (left - 1 - 0) refl (omega arith))
  word_stood {memory = m} (some_flat part payload ws p) words at left is h =
      case_stood (types.Option part) m words at 1 (F.Option part) (Some part) payload left (out_option part) tt (tag_told (types.Option part) m words at 1 ws (F.Option part) (out_option part) tt is) (omega arith) refl h
      (payload_stood p words (at + 1) (left - 1) (payload_there (types.Option part) m words at 1 (F.Option part) (Some part) ws (out_option part) tt refl is) (omega (arith, count_variant 1 payload, h)))
  word_stood {memory = m} (ok_flat ok err payload ws p) words at left is h =
      case_stood (types.Result ok err) m words at 0 (F.Result ok err) ok payload left (out_result ok err) tt (tag_told (types.Result ok err) m words at 0 ws (F.Result ok err) (out_result ok err) tt is) (omega arith) refl h
      (payload_stood p words (at + 1) (left - 1) (payload_there (types.Result ok err) m words at 0 (F.Result ok err) ok ws (out_result ok err) tt refl is) (omega (arith, count_variant 0 payload, h)))
  word_stood {memory = m} (err_flat ok err payload ws p) words at left is h =
      case_stood (types.Result ok err) m words at 1 (F.Result ok err) err payload left (out_result ok err) tt (tag_told (types.Result ok err) m words at 1 ws (F.Result ok err) (out_result ok err) tt is) (omega arith) refl h
      (payload_stood p words (at + 1) (left - 1) (payload_there (types.Result ok err) m words at 1 (F.Result ok err) err ws (out_result ok err) tt refl is) (omega (arith, count_variant 1 payload, h)))

  fields_stood : {memory : List ℕ} {types : List ValType} {all : List Value} {ws : List ℕ} → AreFlat memory types all ws → (words : List ℕ) (at : ℕ) (before : List Value) (left : ℕ)
      → AreThere (all_of (map flat types)) words at ws → total (map counts all) ≤ left
      → word_fields_from memory words before at (parts (map (λ (t : ValType). Some t) types)) left ≡ Ok (before ++ all, left - total (map counts all))
  fields_stood no_flat words at before left is h = same_done before (before ++ []) left (left - 0) (sym (append-nil before)) (omega arith)
  fields_stood {memory = m} (more_flat t types v all ws others many s rest) words at before left is h =
      let parted = part_there t types words at ws others many is in
      ap (λ (r : Lifted Value). after r (λ v left. word_fields_from m words (before ++ v ∷ []) (at + length (flat t)) (parts (map (λ (t : ValType). Some t) types)) left))
      (word_stood s words at left (record { are = parted.0; room = parted.1 }) (omega arith))
      ∙ fields_stood rest words (at + length (flat t)) (before ++ v ∷ []) (left - counts v) parted.2 (omega arith)
      ∙ same_done ((before ++ v ∷ []) ++ all) (before ++ v ∷ all) (left - counts v - total (map counts all)) (left - (counts v + total (map counts all))) (append_assoc before (v ∷ []) all) (omega arith)

  payload_stood : {memory : List ℕ} {t : Option ValType} {payload : Option Value} {ws : List ℕ} → IsFlatPayload memory t payload ws → (words : List ℕ) (at left : ℕ)
      → IsPayloadThere t memory words at ws → payload_counts payload ≤ left
      → word_payload_of (option_map part t) memory words at left ≡ Ok (payload, left - payload_counts payload)
  payload_stood (no_flat_payload ws) words at left is h = same_done None None left (left - 0) refl (omega arith)
  payload_stood (flat_payload_of t v ws s) words at left is h = ap (λ (r : Lifted Value). made (λ v. Some v) r) (word_stood s words at left (is.each t refl) h)
