-- What is lifted from core values is what they stand for.
use Rattle.std.proofs.Common.{◌≡◌, ◌∙◌, ◌≤◌, ◌<◌, ◌+◌, ◌-◌, ◌*◌, ◌%◌, ◌^◌, ℕ, suc, Bool, true, false, not, List, [], ◌∷◌, ◌++◌, map, length, drop, Option, Some, None, Ok, Err, refl, ap, sym, subst, arith, append_assoc, append-nil, length-append, length-drop, slice_index}
use Rattle.std.specs.List.{AllByRecursion}
use Rattle.std.specs.Option.{option_map}
use Rattle.std.specs.Int.{w8, w16, w32, w64, cast_signed}
use Rattle.std.specs.Prelude.{nat_lt, ◌==◌, if◌then◌else◌}
use Rattle.std.specs.Str.{is_utf8}
use Rattle.std.proofs.lemmas.Bool.{leb-true, ltb-true, eqb-true, eqb-false}
use Rattle.std.proofs.lemmas.Str.{IsUtf8-from_is_utf8}
use Rattle.syntax_trees.specs.declared.core_type.CoreType.{CoreType}
use Rattle.syntax_trees.specs.declared.core_type.CoreType.TheVariants.{I32, I64}
use Rattle.syntax_trees.specs.declared.types.ValType.{ValType, out-ValType}
use Rattle.syntax_trees.specs.declared.types.Case.{Case}
use Rattle.syntax_trees.specs.declared.types.Field.{Field}
use Rattle.syntax_trees.specs.declared.types.ValType.TheOpen as F
use Rattle.syntax_trees.specs.declared.types.ValType.TheViews as types
use Rattle.syntax_trees.specs.declared.types.ValType.TheVariants as leaves
use Rattle.syntax_trees.specs.declared.value.Value.{Value}
use Rattle.syntax_trees.specs.declared.value.Value.TheViews as values
use Rattle.syntax_trees.specs.declared.value.Value.TheVariants as plain
use Rattle.laid_types.specs.Layout.{laid}
use Rattle.syntax_trees.specs.Flat.{flat, flat_step, all_of}
use Rattle.laid_types.specs.Parts.{parts_of, parts_case, count_case}
use Rattle.value_lift.specs.declared.trap.LiftWhy.TheVariants.{Misaligned, Bounds, BadChar, BadUtf8, BadCase}
use Rattle.value_lift.specs.Bytes.{bytes_at, is_scalar, is_aligned, is_inside, flags_from}
use Rattle.value_lift.specs.Answers.{Lifted, trap, made, uncounted, counted, counting}
use Rattle.value_lift.specs.Pieces.{Part, plain_of, part_in, string_of, text_of, elements_from, elements_of}
use Rattle.value_lift.specs.Lifting.{lift_words, lift_word_case, layer_of, part, parts, low, word_fields_from, word_payload_of, word_case_of}
use Rattle.value_lift.specs.Standing.{total, counts}
use Rattle.value_lift.specs.WordStanding.{wrapped, FlatOf, AreFlat, IsFlatPayload, false_flat, true_flat, s8_flat, u8_flat, s16_flat, u16_flat, s32_flat, u32_flat, s64_flat, u64_flat, char_flat, own_flat, borrow_flat, stream_flat, future_flat, string_flat, list_flat, flags_flat, no_flat, more_flat, no_flat_payload, flat_payload_of}
use Rattle.value_lift.proofs.Equations.{lift_words_is, parts_in, flats_in}
use Rattle.value_lift.proofs.Forms.{IsPlain, IsRow, HasCases, plain_words, row_words, cases_words}
use Rattle.value_lift.proofs.Lists.{part_image}
use Rattle.value_lift.proofs.Passing.{ok_same, if_ok, counting_ok, after_ok, made_ok, uncounted_ok}
use Rattle.value_lift.proofs.Views.{out_bool, out_s8, out_u8, out_s16, out_u16, out_s32, out_u32, out_own, out_borrow, out_stream, out_future, out_s64, out_u64, out_char, out_string, out_flags, out_list, count_bool, count_s8, count_u8, count_s16, count_u16, count_s32, count_u32, count_own, count_borrow, count_stream, count_future, count_s64, count_u64, count_char, count_string, count_flags, count_list, count_record, count_variant, payload_counts}
use Rattle.value_lift.proofs.Stood.{bytes_length}
use Rattle.value_lift.proofs.Found.{bits_are, elements_found}
use Rattle.value_lift.proofs.TypesFound.{told_type}
use Rattle.value_lift.proofs.WordStood.{flat_at}
use Rattle.value_lift.proofs.Wrapped.{wrapped_32, wrapped_64, wrapped_parts, wrapped_many, low_8, low_16, wrapped_below, below_length, shares}

-- A value that core values stand for, and that is counted.
pub record WordFound (memory words : List ℕ) (at left : ℕ) (t : ValType) (v : Value) (rest : ℕ) : Type 0 where
  pub stands : FlatOf memory t v (wrapped (flat t) (drop at words))
  pub count : rest + counts v ≡ left

abbrev pub WordTold : ValType → Type 0
WordTold t =
    (memory words : List ℕ) (at left rest : ℕ) (v : Value) → at + length (flat t) ≤ length words → lift_words t memory words at left ≡ Ok (v, rest)
    → WordFound memory words at left t v rest

-- core values of which a payload has the first
pub record Fills (words : List ℕ) (at : ℕ) (t : ValType) (ws : List ℕ) : Type 0 where
  pub same : wrapped (flat t) ws ≡ wrapped (flat t) (drop at words)
  pub room : at + length (flat t) ≤ length words

pub record FoundFlatPayload (memory : List ℕ) (left : ℕ) (t : Option ValType) (payload : Option Value) (ws : List ℕ) (rest : ℕ) : Type 0 where
  pub is : IsFlatPayload memory t payload ws
  pub count : rest + payload_counts payload ≡ left

abbrev pub WordToldRest : Option ValType → Type 0
WordToldRest p =
    (memory words : List ℕ) (at left rest : ℕ) (payload : Option Value) (ws : List ℕ) → ((t : ValType) → p ≡ Some t → Fills words at t ws)
    → word_payload_of (option_map part p) memory words at left ≡ Ok (payload, rest) → FoundFlatPayload memory left p payload ws rest

pub word_told_nothing : WordToldRest None
word_told_nothing memory words at left rest payload ws fills h =
    let e : (None, left) ≡ (payload, rest) = ok_same (None, left) (payload, rest) h in
    let f : None ≡ payload = ap (λ (p : Option Value × ℕ). p.0) e in
    let g : left ≡ rest = ap (λ (p : Option Value × ℕ). p.1) e in
    record {
      is = subst (λ (p : Option Value). IsFlatPayload memory None p ws) f (no_flat_payload ws);
      count = subst (λ (p : Option Value). rest + payload_counts p ≡ left) f (omega arith);
    }

pub word_told_payload : (t : ValType) → WordTold t → WordToldRest (Some t)
word_told_payload t told memory words at left rest payload ws fills h =
    let m = made_ok (λ v. Some v) (lift_words t memory words at left) payload rest h in
    let fill = fills t refl in
    let f = told memory words at left rest m.first fill.room m.was in
    record {
      is = subst (λ (p : Option Value). IsFlatPayload memory (Some t) p ws) m.is
          (flat_payload_of t m.first ws (subst (λ (l : List ℕ). FlatOf memory t m.first l) (sym fill.same) f.stands));
      count = subst (λ (p : Option Value). rest + payload_counts p ≡ left) m.is f.count;
    }

record WordReached (t : ValType) (memory words : List ℕ) (at left rest : ℕ) (v : Value) : Type 0 where
  pub one : 1 ≤ left
  pub case : lift_word_case (layer_of t) memory words at (left - 1) ≡ Ok (v, rest)

reached : (t : ValType) (memory words : List ℕ) (at left rest : ℕ) (v : Value) → lift_words t memory words at left ≡ Ok (v, rest) → WordReached t memory words at left rest v
reached t memory words at left rest v h =
    let p = counting_ok 1 at left (λ left. lift_word_case (layer_of t) memory words at left) (v, rest) (sym (lift_words_is t memory words at left) ∙ h) in
    record { one = p.0; case = p.1 }

module _ (t : ValType) (words : List ℕ) (at : ℕ) where
  -- the one core value of a type, and the first of several
  pub first_32 : (ts : List CoreType) → flat t ≡ I32 ∷ ts → at + length (flat t) ≤ length words → wrapped (flat t) (drop at words) ≡ low w32 at words ∷ wrapped ts (drop (at + 1) words)
  first_32 ts f room =
      let many : length (flat t) ≡ suc (length ts) = ap (λ (l : List CoreType). length l) f in
      ap (λ (l : List CoreType). wrapped l (drop at words)) f ∙ wrapped_32 ts words at (omega (arith, room, many))

  pub first_64 : flat t ≡ I64 ∷ [] → at + length (flat t) ≤ length words → wrapped (flat t) (drop at words) ≡ low w64 at words ∷ []
  first_64 f room =
      let many : length (flat t) ≡ 1 = ap (λ (l : List CoreType). length l) f in
      ap (λ (l : List CoreType). wrapped l (drop at words)) f ∙ wrapped_64 [] words at (omega (arith, room, many))

  pub two_32 : flat t ≡ I32 ∷ I32 ∷ [] → at + length (flat t) ≤ length words → wrapped (flat t) (drop at words) ≡ low w32 at words ∷ low w32 (at + 1) words ∷ []
  two_32 f room =
      let many : length (flat t) ≡ 2 = ap (λ (l : List CoreType). length l) f in
      first_32 (I32 ∷ []) f room ∙ ap (λ (l : List ℕ). low w32 at words ∷ l) (wrapped_32 [] words (at + 1) (omega (arith, room, many)))

module _ (t : ValType) (memory words : List ℕ) (at left rest : ℕ) (v : Value) where
  plain_found : (y : F.ValType-F ValType Case Field) → out-ValType t ≡ y → IsPlain y → lift_words t memory words at left ≡ Ok (v, rest)
      → (plain_of y w32 (λ w. low w at words) at ≡ Ok v) × (suc rest ≡ left)
  plain_found y e kind h =
      let r = reached t memory words at left rest v h in
      let p =
      uncounted_ok (left - 1) (plain_of y w32 (λ w. low w at words) at) v rest
      (ap (λ (y : F.ValType-F ValType Case Field). uncounted (left - 1) (plain_of y w32 (λ w. low w at words) at)) (sym e)
      ∙ sym (plain_words memory words at (left - 1) t (subst IsPlain (sym e) kind)) ∙ r.case) in
      (p.0, omega (arith, r.one, p.1))

  leaf_found : (w : Value) (ws : List ℕ) → w ≡ v → wrapped (flat t) (drop at words) ≡ ws → FlatOf memory t w ws → counts w ≡ 1 → suc rest ≡ left → WordFound memory words at left t v rest
  leaf_found w ws e f s c r = record {
    stands = subst (λ (l : List ℕ). FlatOf memory t v l) (sym f) (subst (λ (v : Value). FlatOf memory t v ws) e s);
    count = subst (λ (v : Value). rest + counts v ≡ left) e (omega (arith, c, r));
  }

  pub word_number_found : (y : F.ValType-F ValType Case Field) (w u : Value) → out-ValType t ≡ y → IsPlain y → flat_step (flats_in y) ≡ I32 ∷ [] → at + length (flat t) ≤ length words
      → plain_of y w32 (λ w. low w at words) at ≡ Ok u → w ≡ u → FlatOf memory t w (low w32 at words ∷ []) → counts w ≡ 1 → lift_words t memory words at left ≡ Ok (v, rest)
      → WordFound memory words at left t v rest
  word_number_found y w u e kind f room told same s c h =
      let p = plain_found y e kind h in
      leaf_found w (low w32 at words ∷ []) (same ∙ ok_same u v (sym told ∙ p.0)) (first_32 t words at [] (flat_at t y e ∙ f) room) s c p.1

  pub word_long_found : (y : F.ValType-F ValType Case Field) (w : Value) → out-ValType t ≡ y → IsPlain y → flat_step (flats_in y) ≡ I64 ∷ [] → at + length (flat t) ≤ length words
      → plain_of y w32 (λ w. low w at words) at ≡ Ok w → FlatOf memory t w (low w64 at words ∷ []) → counts w ≡ 1 → lift_words t memory words at left ≡ Ok (v, rest)
      → WordFound memory words at left t v rest
  word_long_found y w e kind f room told s c h =
      let p = plain_found y e kind h in
      leaf_found w (low w64 at words ∷ []) (ok_same w v (sym told ∙ p.0)) (first_64 t words at (flat_at t y e ∙ f) room) s c p.1

bool_stands : (memory : List ℕ) (n : ℕ) (b : Bool) → (n == 0) ≡ b → FlatOf memory leaves.Bool (plain.Bool (not b)) (n ∷ [])
bool_stands memory n true e = subst (λ (k : ℕ). FlatOf memory leaves.Bool (plain.Bool false) (k ∷ [])) (sym (eqb-true n 0 e)) false_flat
bool_stands memory n false e = true_flat n (eqb-false n 0 e)

pub word_bool : WordTold leaves.Bool
word_bool m ws at l r v room h =
    let b : Bool = low w32 at ws == 0 in
    word_number_found leaves.Bool m ws at l r v F.Bool (plain.Bool (not b)) (plain.Bool (not b)) out_bool tt refl room refl refl (bool_stands m (low w32 at ws) b refl) (count_bool (not b)) h

pub word_s8 : WordTold leaves.S8
word_s8 m ws at l r v room h =
    word_number_found leaves.S8 m ws at l r v F.S8 (plain.S8 (cast_signed w8 (low w32 at ws % 2 ^ 8))) (plain.S8 (cast_signed w8 (low w8 at ws))) out_s8 tt refl room refl
    (ap (λ (n : ℕ). plain.S8 (cast_signed w8 n)) (low_8 (slice_index ws at))) (s8_flat (low w32 at ws)) (count_s8 _) h

pub word_u8 : WordTold leaves.U8
word_u8 m ws at l r v room h =
    word_number_found leaves.U8 m ws at l r v F.U8 (plain.U8 (low w32 at ws % 2 ^ 8)) (plain.U8 (low w8 at ws)) out_u8 tt refl room refl
    (ap (λ (n : ℕ). plain.U8 n) (low_8 (slice_index ws at))) (u8_flat (low w32 at ws)) (count_u8 _) h

pub word_s16 : WordTold leaves.S16
word_s16 m ws at l r v room h =
    word_number_found leaves.S16 m ws at l r v F.S16 (plain.S16 (cast_signed w16 (low w32 at ws % 2 ^ 16))) (plain.S16 (cast_signed w16 (low w16 at ws))) out_s16 tt refl room refl
    (ap (λ (n : ℕ). plain.S16 (cast_signed w16 n)) (low_16 (slice_index ws at))) (s16_flat (low w32 at ws)) (count_s16 _) h

pub word_u16 : WordTold leaves.U16
word_u16 m ws at l r v room h =
    word_number_found leaves.U16 m ws at l r v F.U16 (plain.U16 (low w32 at ws % 2 ^ 16)) (plain.U16 (low w16 at ws)) out_u16 tt refl room refl
    (ap (λ (n : ℕ). plain.U16 n) (low_16 (slice_index ws at))) (u16_flat (low w32 at ws)) (count_u16 _) h

pub word_s32 : WordTold leaves.S32
word_s32 m ws at l r v room h =
    word_number_found leaves.S32 m ws at l r v F.S32 (plain.S32 (cast_signed w32 (low w32 at ws))) (plain.S32 (cast_signed w32 (low w32 at ws))) out_s32 tt refl room refl refl
    (s32_flat (low w32 at ws)) (count_s32 _) h

pub word_u32 : WordTold leaves.U32
word_u32 m ws at l r v room h =
    word_number_found leaves.U32 m ws at l r v F.U32 (plain.U32 (low w32 at ws)) (plain.U32 (low w32 at ws)) out_u32 tt refl room refl refl (u32_flat (low w32 at ws)) (count_u32 _) h

pub word_own : (resource : ℕ) → WordTold (leaves.Own resource)
word_own resource m ws at l r v room h =
    word_number_found (leaves.Own resource) m ws at l r v (F.Own resource) (plain.Own (record { resource = resource; rep = low w32 at ws })) (plain.Own (record { resource = resource; rep = low w32 at ws }))
    (out_own resource) tt refl room refl refl (own_flat resource (low w32 at ws)) (count_own _) h

pub word_borrow : (resource : ℕ) → WordTold (leaves.Borrow resource)
word_borrow resource m ws at l r v room h =
    word_number_found (leaves.Borrow resource) m ws at l r v (F.Borrow resource) (plain.Borrow (record { resource = resource; rep = low w32 at ws })) (plain.Borrow (record { resource = resource; rep = low w32 at ws }))
    (out_borrow resource) tt refl room refl refl (borrow_flat resource (low w32 at ws)) (count_borrow _) h

-- the end of a stream or a future
abbrev IsEnd : F.ValType-F ValType Case Field → Type 0
IsEnd (F.Stream element) = Unit {0}
IsEnd (F.Future element) = Unit {0}
IsEnd other = ⊥

ends_flat : (y : F.ValType-F ValType Case Field) → IsEnd y → flat_step (flats_in y) ≡ I32 ∷ []
ends_flat (F.Stream None) h = refl
ends_flat (F.Stream (Some t)) h = refl
ends_flat (F.Future None) h = refl
ends_flat (F.Future (Some t)) h = refl
ends_flat other h = absurd h

pub word_stream : (element : Option ValType) → WordTold (types.Stream element)
word_stream element m ws at l r v room h =
    word_number_found (types.Stream element) m ws at l r v (F.Stream element) (plain.Stream (low w32 at ws)) (plain.Stream (low w32 at ws)) (out_stream element) tt (ends_flat (F.Stream element) tt) room refl
    refl (stream_flat element (low w32 at ws)) (count_stream _) h

pub word_future : (element : Option ValType) → WordTold (types.Future element)
word_future element m ws at l r v room h =
    word_number_found (types.Future element) m ws at l r v (F.Future element) (plain.Future (low w32 at ws)) (plain.Future (low w32 at ws)) (out_future element) tt (ends_flat (F.Future element) tt) room refl
    refl (future_flat element (low w32 at ws)) (count_future _) h

pub word_s64 : WordTold leaves.S64
word_s64 m ws at l r v room h =
    word_long_found leaves.S64 m ws at l r v F.S64 (plain.S64 (cast_signed w64 (low w64 at ws))) out_s64 tt refl room refl (s64_flat (low w64 at ws)) (count_s64 _) h

pub word_u64 : WordTold leaves.U64
word_u64 m ws at l r v room h =
    word_long_found leaves.U64 m ws at l r v F.U64 (plain.U64 (low w64 at ws)) out_u64 tt refl room refl (u64_flat (low w64 at ws)) (count_u64 _) h

pub word_char : WordTold leaves.Char
word_char m ws at l r v room h =
    let p = plain_found leaves.Char m ws at l r v F.Char out_char tt h in
    let n : ℕ = low w32 at ws in
    let q = if_ok (is_scalar n) (Ok (plain.Char n)) (trap BadChar at) v p.0 in
    leaf_found leaves.Char m ws at l r v (plain.Char n) (n ∷ []) (ok_same (plain.Char n) v q.1) (first_32 leaves.Char ws at [] (flat_at leaves.Char F.Char out_char) room)
    (char_flat n q.0) (count_char n) p.1

pub word_string : WordTold leaves.String
word_string memory words at left rest v room h =
    let from : ℕ = low w32 at words in
    let count : ℕ = low w32 (at + 1) words in
    let bytes : List ℕ = bytes_at from count memory in
    let r = reached leaves.String memory words at left rest v h in
    let told : string_of from count memory at (left - 1) ≡ Ok (v, rest) =
    sym (ap (λ (y : F.ValType-F ValType Case Field). lift_word_case (parts_in y) memory words at (left - 1)) out_string) ∙ r.case in
    let p = if_ok (is_inside from count memory) (counting (counted count at (left - 1)) (λ left. uncounted left (text_of bytes at))) (trap Bounds at) (v, rest) told in
    let inside : from + count ≤ length memory = leb-true (from + count) (length memory) p.0 in
    let c = counting_ok count at (left - 1) (λ left. uncounted left (text_of bytes at)) (v, rest) p.1 in
    let u = uncounted_ok (left - 1 - count) (text_of bytes at) v rest c.1 in
    let t = if_ok (is_utf8 bytes) (Ok (plain.String bytes)) (trap BadUtf8 at) v u.0 in
    let e : plain.String bytes ≡ v = ok_same (plain.String bytes) v t.1 in
    let f = two_32 leaves.String words at (flat_at leaves.String F.String out_string) room in
    record {
      stands = subst (λ (l : List ℕ). FlatOf memory leaves.String v l) (sym f)
          (subst (λ (v : Value). FlatOf memory leaves.String v (from ∷ count ∷ [])) e (string_flat from count inside (IsUtf8-from_is_utf8 bytes t.0)));
      count = subst (λ (v : Value). rest + counts v ≡ left) e (omega (arith, count_string bytes, bytes_length from count memory inside, u.1, c.0, r.one));
    }

pub word_flags : (labels : List (List ℕ)) → WordTold (leaves.Flags labels)
word_flags labels memory words at left rest v room h =
    let r = reached (leaves.Flags labels) memory words at left rest v h in
    let n : ℕ = low w32 at words in
    let told : Ok (plain.Flags (flags_from [] labels n), left - 1) ≡ Ok (v, rest) =
    sym (ap (λ (y : F.ValType-F ValType Case Field). lift_word_case (parts_in y) memory words at (left - 1)) (out_flags labels)) ∙ r.case in
    let pair = ok_same (plain.Flags (flags_from [] labels n), left - 1) (v, rest) told in
    let b = bits_are labels n [] in
    let e : plain.Flags b.flags ≡ v = ap (λ (fs : List Bool). plain.Flags fs) (sym b.from) ∙ ap (λ (p : Value × ℕ). p.0) pair in
    let k : left - 1 ≡ rest = ap (λ (p : Value × ℕ). p.1) pair in
    leaf_found (leaves.Flags labels) memory words at left rest v (plain.Flags b.flags) (n ∷ []) e
    (first_32 (leaves.Flags labels) words at [] (flat_at (leaves.Flags labels) (F.Flags labels) (out_flags labels)) room)
    (flags_flat labels b.flags n b.are) (count_flags b.flags) (omega (arith, k, r.one))

pub word_list : (t : ValType) → WordTold (types.List t)
word_list t memory words at left rest v room h =
    let r = reached (types.List t) memory words at left rest v h in
    let from : ℕ = low w32 at words in
    let count : ℕ = low w32 (at + 1) words in
    let found : made values.List (elements_of (part t) from count memory at (left - 1)) ≡ Ok (v, rest) =
    sym (ap (λ (y : F.ValType-F ValType Case Field). lift_word_case (parts_in y) memory words at (left - 1)) (out_list t)) ∙ r.case in
    let m = made_ok values.List (elements_of (part t) from count memory at (left - 1)) v rest found in
    let all : Lifted (List Value) = elements_from (part t) memory [] count from (left - 1) in
    let p = if_ok (is_aligned from (laid t).align) (if is_inside from (count * (laid t).size) memory then all else Err (trap Bounds at)) (trap Misaligned at) (m.first, rest) m.was in
    let q = if_ok (is_inside from (count * (laid t).size) memory) all (trap Bounds at) (m.first, rest) p.1 in
    let e = elements_found t (told_type t) memory [] m.first count from (left - 1) rest q.1 in
    let same : values.List e.values ≡ v = ap (λ (l : List Value). values.List l) (sym e.all_is) ∙ m.is in
    let inside : from + count * (laid t).size ≤ length memory = leb-true (from + count * (laid t).size) (length memory) q.0 in
    let f = two_32 (types.List t) words at (flat_at (types.List t) (F.List t) (out_list t)) room in
    let stands : FlatOf memory (types.List t) (values.List e.values) (from ∷ length e.values ∷ []) =
    list_flat from t e.values (eqb-true (from % (laid t).align) 0 p.0) (subst (λ (n : ℕ). from + n * (laid t).size ≤ length memory) (sym e.many) inside) e.are in
    record {
      stands = subst (λ (l : List ℕ). FlatOf memory (types.List t) v l) (ap (λ (n : ℕ). from ∷ n ∷ []) e.many ∙ sym f)
          (subst (λ (v : Value). FlatOf memory (types.List t) v (from ∷ length e.values ∷ [])) same stands);
      count = subst (λ (v : Value). rest + counts v ≡ left) same (omega (arith, count_list e.values, e.count, r.one));
    }

-- Records.
record FoundFlats (memory words : List ℕ) (at left : ℕ) (types : List ValType) (before all : List Value) (rest : ℕ) : Type 0 where
  pub values : List Value
  pub all_is : all ≡ before ++ values
  pub are : AreFlat memory types values (wrapped (all_of (map flat types)) (drop at words))
  pub count : rest + total (map counts values) ≡ left

fields_found : (types : List ValType) → AllByRecursion WordTold types → (memory words : List ℕ) (at left rest : ℕ) (before all : List Value)
    → at + length (all_of (map flat types)) ≤ length words
    → word_fields_from memory words before at (parts (map (λ (t : ValType). Some t) types)) left ≡ Ok (all, rest)
    → FoundFlats memory words at left types before all rest
fields_found [] told memory words at left rest before all room h =
    let e = ok_same (before, left) (all, rest) h in
    let f : before ≡ all = ap (λ (p : List Value × ℕ). p.0) e in
    let g : left ≡ rest = ap (λ (p : List Value × ℕ). p.1) e in
    record { values = []; all_is = sym f ∙ sym (append-nil before); are = no_flat; count = omega (arith, g) }
fields_found (t ∷ types) told memory words at left rest before all room h =
    let next : ℕ = at + length (flat t) in
    let size : length (flat t ++ all_of (map flat types)) ≡ length (flat t) + length (all_of (map flat types)) = length-append (flat t) (all_of (map flat types)) in
    let here : at + length (flat t) ≤ length words = omega (arith, room, size) in
    let others : List (Option Part) = parts (map (λ (t : ValType). Some t) types) in
    let a = after_ok (lift_words t memory words at left) (λ v left. word_fields_from memory words (before ++ v ∷ []) next others left) (all, rest) h in
    let f = told.0 memory words at left a.left a.first here a.was in
    let r = fields_found types told.1 memory words next a.left rest (before ++ a.first ∷ []) all (omega (arith, room, size)) a.then_is in
    let over : length (drop at words) ≡ length words - at = length-drop at words in
    let many : length (wrapped (flat t) (drop at words)) ≡ length (flat t) = wrapped_many (flat t) (drop at words) (omega (arith, here, over)) in
    record {
      values = a.first ∷ r.values;
      all_is = r.all_is ∙ append_assoc before (a.first ∷ []) r.values;
      are = subst (λ (l : List ℕ). AreFlat memory (t ∷ types) (a.first ∷ r.values) l) (sym (wrapped_parts (flat t) (all_of (map flat types)) words at here))
          (more_flat t types a.first r.values (wrapped (flat t) (drop at words)) (wrapped (all_of (map flat types)) (drop next words)) many f.stands r.are);
      count = omega (arith, f.count, r.count);
    }

pub word_row : (t : ValType) (types : List ValType) → AllByRecursion WordTold types → IsRow (out-ValType t) → parts_of t ≡ map (λ (t : ValType). Some t) types
    → flat t ≡ all_of (map flat types)
    → ((memory : List ℕ) (all : List Value) (ws : List ℕ) → AreFlat memory types all ws → FlatOf memory t (values.Record all) ws) → WordTold t
word_row t types told row e flats stands memory words at left rest v room h =
    let r = reached t memory words at left rest v h in
    let all : Lifted (List Value) = word_fields_from memory words [] at (parts (map (λ (t : ValType). Some t) types)) (left - 1) in
    let found : made values.Record all ≡ Ok (v, rest) =
    sym (row_words memory words at (left - 1) t row ∙ ap (λ (ts : List (Option ValType)). made values.Record (word_fields_from memory words [] at (parts ts) (left - 1))) e) ∙ r.case in
    let m = made_ok values.Record all v rest found in
    let f = fields_found types told memory words at (left - 1) rest [] m.first (subst (λ (l : List CoreType). at + length l ≤ length words) flats room) m.was in
    let same : values.Record f.values ≡ v = ap (λ (l : List Value). values.Record l) (sym f.all_is) ∙ m.is in
    record {
      stands = subst (λ (l : List CoreType). FlatOf memory t v (wrapped l (drop at words))) (sym flats)
          (subst (λ (v : Value). FlatOf memory t v (wrapped (all_of (map flat types)) (drop at words))) same (stands memory f.values (wrapped (all_of (map flat types)) (drop at words)) f.are));
      count = subst (λ (v : Value). rest + counts v ≡ left) same (omega (arith, count_record f.values, f.count, r.one));
    }

-- Cases.
pub word_cases : (t : ValType) (y : F.ValType-F ValType Case Field) → out-ValType t ≡ y → (kind : HasCases y) → ((n : ℕ) → n < count_case y → WordToldRest (part_in (parts_case y) n))
    → ((memory : List ℕ) (n : ℕ) (payload : Option Value) (others : List ℕ) → n < count_case y → IsFlatPayload memory (part_in (parts_case y) n) payload (wrapped (shares y kind).types others)
    → FlatOf memory t (values.Variant n payload) (n ∷ wrapped (shares y kind).types others))
    → WordTold t
word_cases t y o kind told stands memory words at left rest v room h =
    let r = reached t memory words at left rest v h in
    let s = shares y kind in
    let n : ℕ = low w32 at words in
    let ws : List ℕ = wrapped s.types (drop (at + 1) words) in
    let f : flat t ≡ I32 ∷ s.types = flat_at t y o ∙ s.is in
    let many : length (flat t) ≡ suc (length s.types) = ap (λ (l : List CoreType). length l) f in
    let found : Lifted (Option Value) = word_payload_of (part_in (parts (parts_case y)) n) memory words (at + 1) (left - 1) in
    let here : word_case_of (count_case y) (parts (parts_case y)) memory words at (left - 1) ≡ Ok (v, rest) =
    sym (cases_words memory words at (left - 1) t (subst HasCases (sym o) kind) ∙ ap (λ (y : F.ValType-F ValType Case Field). word_case_of (count_case y) (parts (parts_case y)) memory words at (left - 1)) o) ∙ r.case in
    let p = if_ok (nat_lt n (count_case y)) (made (values.Variant n) found) (trap BadCase at) (v, rest) here in
    let below : n < count_case y = ltb-true n (count_case y) p.0 in
    let m = made_ok (values.Variant n) found v rest p.1 in
    let part_here : word_payload_of (option_map part (part_in (parts_case y) n)) memory words (at + 1) (left - 1) ≡ Ok (m.first, rest) =
    sym (ap (λ (q : Option Part). word_payload_of q memory words (at + 1) (left - 1)) (part_image (parts_case y) n)) ∙ m.was in
    let fills : (u : ValType) → part_in (parts_case y) n ≡ Some u → Fills words (at + 1) u ws =
    λ u e.
    let b = s.below n u e in
    record { same = wrapped_below (flat u) s.types (drop (at + 1) words) b; room = omega (arith, room, many, below_length (flat u) s.types b) } in
    let g = told n below memory words (at + 1) (left - 1) rest m.first ws fills part_here in
    record {
      stands = subst (λ (l : List ℕ). FlatOf memory t v l) (sym (first_32 t words at s.types f room))
          (subst (λ (v : Value). FlatOf memory t v (n ∷ ws)) m.is (stands memory n m.first (drop (at + 1) words) below g.is));
      count = subst (λ (v : Value). rest + counts v ≡ left) m.is (omega (arith, count_variant n m.first, g.count, r.one));
    }
