-- What is written for values without parts is a text of them.
use Rattle.std.proofs.Common.{◌≡◌, ◌∙◌, ℕ, suc, ◌+◌, ◌≤◌, ◌<◌, ◌^◌, List, [], ◌∷◌, codes, Bool, true, false, Option, refl, sym, ap, subst, append-nil, arith, add-one, rules}
use Rattle.std.specs.Prelude.{ℤ, pos, negsuc}
use Rattle.std.specs.Fmt.{decimal, signed_decimal}
use Rattle.std.specs.Char.{encode_utf8, IsScalar}
use Rattle.std.specs.Str.{IsUtf8, chars, all_scalars}
use Rattle.std.proofs.lemmas.Bool.{and_parts, leb-true}
use Rattle.std.proofs.lemmas.Str.{IsUtf8-from_is_utf8, encodes-chars, scalars-chars}
use Rattle.syntax_trees.specs.declared.types.ValType.{ValType}
use Rattle.syntax_trees.specs.declared.types.ValType.TheVariants as leaves
use Rattle.syntax_trees.specs.declared.types.ValType.TheVariants.{rolls-Bool, rolls-S8, rolls-U8, rolls-S16, rolls-U16, rolls-S32, rolls-U32, rolls-S64, rolls-U64, rolls-Char, rolls-String}
use Rattle.syntax_trees.specs.declared.types.ValType.TheOpen as F
use Rattle.syntax_trees.specs.declared.types.ValType.TheFolds.{fold-roll-ValType}
use Rattle.syntax_trees.specs.declared.value.Value.{Value, roll-Value, out-Value}
use Rattle.syntax_trees.specs.declared.value.Value.TheOpen as V
use Rattle.syntax_trees.specs.declared.value.Value.TheViews.{the_lemmas}
use Rattle.syntax_trees.specs.declared.value.Value.TheVariants as plain
use Rattle.syntax_trees.specs.declared.value.Value.TheFolds.{fold_out-Value, map-Value}
use Rattle.syntax_trees.specs.CharText.{quoted, quoted_chars}
use Rattle.syntax_trees.specs.Fits.{Test, test_of, fits_step, fits_case, fits_field, is_bool, is_s8, is_u8, is_s16, is_u16, is_s32, is_u32, is_s64, is_u64, is_char, is_string}
use Rattle.syntax_trees.specs.ValueText.{Writer, Labelled, writer, writer_step, writer_case, writer_field, plain_text}
use Rattle.value_reader.specs.Syntax.{IsNumber, IsSigned, IsInRange, IsLiteral}
use Rattle.value_reader.specs.Writable.{is_within, sound_step, is_sound}
use Rattle.value_reader.specs.Written.{IsText, true_text, false_text, s8_text, u8_text, s16_text, u16_text, s32_text, u32_text, s64_text, u64_text, char_text, string_text}
use Rattle.value_reader.proofs.WrittenBack.{decimal_is_number, quoted_is_literal}

-- A value by its outer layer.
abbrev pub sound_layer : V.Value-F Value → Bool
sound_layer o = sound_step (map-Value Value Bool is_sound o)

layer_of : (v : Value) → roll-Value (out-Value v) ≡ v
layer_of v = search (rules, the_lemmas)

pub by_layer : (t : ValType) (test : V.Value-F Value → Bool) (text : V.Value-F Value → List ℕ) → ((v : Value) → test_of t v ≡ test (out-Value v)) → ((v : Value) → writer t v ≡ text (out-Value v))
    → ((o : V.Value-F Value) → test o ≡ true → sound_layer o ≡ true → IsText t (roll-Value o) (text o)) → (v : Value) → test_of t v ≡ true → is_sound v ≡ true → IsText t v (writer t v)
by_layer t test text tested written is v h s =
    let here = is (out-Value v) (sym (tested v) ∙ h) (sym (fold_out-Value Bool sound_step v) ∙ s) in
    subst (λ (l : List ℕ). IsText t v l) (sym (written v)) (subst (λ (w : Value). IsText t w (text (out-Value v))) (layer_of v) here)

abbrev Rest : Type 0
Rest = Labelled (Option Writer)

abbrev Named : Type 0
Named = Labelled Writer

pub fits_of_bool : (v : Value) → test_of leaves.Bool v ≡ is_bool (out-Value v)
fits_of_bool v = ap (λ (t : ValType). test_of t v) (sym rolls-Bool) ∙ ap (λ (t : Test). t v) (fold-roll-ValType Test (Option Test) Test fits_step fits_case fits_field F.Bool)

writer_of_bool : (v : Value) → writer leaves.Bool v ≡ plain_text (out-Value v)
writer_of_bool v = ap (λ (t : ValType). writer t v) (sym rolls-Bool) ∙ ap (λ (w : Writer). w v) (fold-roll-ValType Writer Rest Named writer_step writer_case writer_field F.Bool)

pub fits_of_s8 : (v : Value) → test_of leaves.S8 v ≡ is_s8 (out-Value v)
fits_of_s8 v = ap (λ (t : ValType). test_of t v) (sym rolls-S8) ∙ ap (λ (t : Test). t v) (fold-roll-ValType Test (Option Test) Test fits_step fits_case fits_field F.S8)

writer_of_s8 : (v : Value) → writer leaves.S8 v ≡ plain_text (out-Value v)
writer_of_s8 v = ap (λ (t : ValType). writer t v) (sym rolls-S8) ∙ ap (λ (w : Writer). w v) (fold-roll-ValType Writer Rest Named writer_step writer_case writer_field F.S8)

pub fits_of_u8 : (v : Value) → test_of leaves.U8 v ≡ is_u8 (out-Value v)
fits_of_u8 v = ap (λ (t : ValType). test_of t v) (sym rolls-U8) ∙ ap (λ (t : Test). t v) (fold-roll-ValType Test (Option Test) Test fits_step fits_case fits_field F.U8)

writer_of_u8 : (v : Value) → writer leaves.U8 v ≡ plain_text (out-Value v)
writer_of_u8 v = ap (λ (t : ValType). writer t v) (sym rolls-U8) ∙ ap (λ (w : Writer). w v) (fold-roll-ValType Writer Rest Named writer_step writer_case writer_field F.U8)

pub fits_of_s16 : (v : Value) → test_of leaves.S16 v ≡ is_s16 (out-Value v)
fits_of_s16 v = ap (λ (t : ValType). test_of t v) (sym rolls-S16) ∙ ap (λ (t : Test). t v) (fold-roll-ValType Test (Option Test) Test fits_step fits_case fits_field F.S16)

writer_of_s16 : (v : Value) → writer leaves.S16 v ≡ plain_text (out-Value v)
writer_of_s16 v = ap (λ (t : ValType). writer t v) (sym rolls-S16) ∙ ap (λ (w : Writer). w v) (fold-roll-ValType Writer Rest Named writer_step writer_case writer_field F.S16)

pub fits_of_u16 : (v : Value) → test_of leaves.U16 v ≡ is_u16 (out-Value v)
fits_of_u16 v = ap (λ (t : ValType). test_of t v) (sym rolls-U16) ∙ ap (λ (t : Test). t v) (fold-roll-ValType Test (Option Test) Test fits_step fits_case fits_field F.U16)

writer_of_u16 : (v : Value) → writer leaves.U16 v ≡ plain_text (out-Value v)
writer_of_u16 v = ap (λ (t : ValType). writer t v) (sym rolls-U16) ∙ ap (λ (w : Writer). w v) (fold-roll-ValType Writer Rest Named writer_step writer_case writer_field F.U16)

pub fits_of_s32 : (v : Value) → test_of leaves.S32 v ≡ is_s32 (out-Value v)
fits_of_s32 v = ap (λ (t : ValType). test_of t v) (sym rolls-S32) ∙ ap (λ (t : Test). t v) (fold-roll-ValType Test (Option Test) Test fits_step fits_case fits_field F.S32)

writer_of_s32 : (v : Value) → writer leaves.S32 v ≡ plain_text (out-Value v)
writer_of_s32 v = ap (λ (t : ValType). writer t v) (sym rolls-S32) ∙ ap (λ (w : Writer). w v) (fold-roll-ValType Writer Rest Named writer_step writer_case writer_field F.S32)

pub fits_of_u32 : (v : Value) → test_of leaves.U32 v ≡ is_u32 (out-Value v)
fits_of_u32 v = ap (λ (t : ValType). test_of t v) (sym rolls-U32) ∙ ap (λ (t : Test). t v) (fold-roll-ValType Test (Option Test) Test fits_step fits_case fits_field F.U32)

writer_of_u32 : (v : Value) → writer leaves.U32 v ≡ plain_text (out-Value v)
writer_of_u32 v = ap (λ (t : ValType). writer t v) (sym rolls-U32) ∙ ap (λ (w : Writer). w v) (fold-roll-ValType Writer Rest Named writer_step writer_case writer_field F.U32)

pub fits_of_s64 : (v : Value) → test_of leaves.S64 v ≡ is_s64 (out-Value v)
fits_of_s64 v = ap (λ (t : ValType). test_of t v) (sym rolls-S64) ∙ ap (λ (t : Test). t v) (fold-roll-ValType Test (Option Test) Test fits_step fits_case fits_field F.S64)

writer_of_s64 : (v : Value) → writer leaves.S64 v ≡ plain_text (out-Value v)
writer_of_s64 v = ap (λ (t : ValType). writer t v) (sym rolls-S64) ∙ ap (λ (w : Writer). w v) (fold-roll-ValType Writer Rest Named writer_step writer_case writer_field F.S64)

pub fits_of_u64 : (v : Value) → test_of leaves.U64 v ≡ is_u64 (out-Value v)
fits_of_u64 v = ap (λ (t : ValType). test_of t v) (sym rolls-U64) ∙ ap (λ (t : Test). t v) (fold-roll-ValType Test (Option Test) Test fits_step fits_case fits_field F.U64)

writer_of_u64 : (v : Value) → writer leaves.U64 v ≡ plain_text (out-Value v)
writer_of_u64 v = ap (λ (t : ValType). writer t v) (sym rolls-U64) ∙ ap (λ (w : Writer). w v) (fold-roll-ValType Writer Rest Named writer_step writer_case writer_field F.U64)

pub fits_of_char : (v : Value) → test_of leaves.Char v ≡ is_char (out-Value v)
fits_of_char v = ap (λ (t : ValType). test_of t v) (sym rolls-Char) ∙ ap (λ (t : Test). t v) (fold-roll-ValType Test (Option Test) Test fits_step fits_case fits_field F.Char)

writer_of_char : (v : Value) → writer leaves.Char v ≡ plain_text (out-Value v)
writer_of_char v = ap (λ (t : ValType). writer t v) (sym rolls-Char) ∙ ap (λ (w : Writer). w v) (fold-roll-ValType Writer Rest Named writer_step writer_case writer_field F.Char)

pub fits_of_string : (v : Value) → test_of leaves.String v ≡ is_string (out-Value v)
fits_of_string v = ap (λ (t : ValType). test_of t v) (sym rolls-String) ∙ ap (λ (t : Test). t v) (fold-roll-ValType Test (Option Test) Test fits_step fits_case fits_field F.String)

writer_of_string : (v : Value) → writer leaves.String v ≡ plain_text (out-Value v)
writer_of_string v = ap (λ (t : ValType). writer t v) (sym rolls-String) ∙ ap (λ (w : Writer). w v) (fold-roll-ValType Writer Rest Named writer_step writer_case writer_field F.String)

-- Numbers, characters and texts as they are written.
range_of : (most : ℕ) (n : ℤ) → is_within most n ≡ true → IsInRange most n
range_of most (pos n) h = leb-true n most h
range_of most (negsuc n) h = leb-true n most h

signed_of : (most : ℕ) (n : ℤ) → most < 2 ^ 63 → IsInRange most n → IsSigned (signed_decimal n) n
signed_of most (pos n) low small = decimal_is_number n (omega (arith, low, small))
signed_of most (negsuc n) low small =
    let fits : n + 1 < 2 ^ 64 = omega (arith, low, small) in
    (decimal (suc n), refl, subst (λ (k : ℕ). IsNumber 10 (decimal k) (n + 1)) (add-one n) (decimal_is_number (n + 1) fits))

literal_of_char : (c : ℕ) → all_scalars (c ∷ []) ≡ true → IsLiteral 39 (quoted_chars 39 (c ∷ [])) (encode_utf8 c)
literal_of_char c h = subst (λ (l : List ℕ). IsLiteral 39 (quoted_chars 39 (c ∷ [])) l) (append-nil (encode_utf8 c)) (quoted_is_literal 39 (c ∷ []) refl h)

scalar_of : (c : ℕ) → all_scalars (c ∷ []) ≡ true → IsScalar c
scalar_of c h = (and_parts _ true h).0

literal_of_text : (text : List ℕ) → IsUtf8 text → IsLiteral 34 (quoted 34 text) text
literal_of_text text u = subst (λ (l : List ℕ). IsLiteral 34 (quoted 34 text) l) (encodes-chars text u) (quoted_is_literal 34 (chars text) refl (scalars-chars text u))

layer_bool : (o : V.Value-F Value) → is_bool o ≡ true → sound_layer o ≡ true → IsText leaves.Bool (roll-Value o) (plain_text o)
layer_bool (V.Bool true) h s = subst (λ (v : Value). IsText leaves.Bool v (codes "true")) (sym (plain.rolls-Bool true)) true_text
layer_bool (V.Bool false) h s = subst (λ (v : Value). IsText leaves.Bool v (codes "false")) (sym (plain.rolls-Bool false)) false_text
layer_bool o h s = cc

layer_char : (o : V.Value-F Value) → is_char o ≡ true → sound_layer o ≡ true → IsText leaves.Char (roll-Value o) (plain_text o)
layer_char (V.Char c) h s =
    subst (λ (v : Value). IsText leaves.Char v (quoted_chars 39 (c ∷ []))) (sym (plain.rolls-Char c)) (char_text c (quoted_chars 39 (c ∷ [])) (literal_of_char c s) (scalar_of c s))
layer_char o h s = cc

layer_string : (o : V.Value-F Value) → is_string o ≡ true → sound_layer o ≡ true → IsText leaves.String (roll-Value o) (plain_text o)
layer_string (V.String text) h s =
    let u = IsUtf8-from_is_utf8 text s in
    subst (λ (v : Value). IsText leaves.String v (quoted 34 text)) (sym (plain.rolls-String text)) (string_text text (quoted 34 text) (literal_of_text text u) u)
layer_string o h s = cc

layer_s8 : (o : V.Value-F Value) → is_s8 o ≡ true → sound_layer o ≡ true → IsText leaves.S8 (roll-Value o) (plain_text o)
layer_s8 (V.S8 n) h s =
    let small = range_of 0x7F n s in
    subst (λ (v : Value). IsText leaves.S8 v (signed_decimal n)) (sym (plain.rolls-S8 n)) (s8_text n (signed_decimal n) (signed_of 0x7F n (omega arith) small) small)
layer_s8 o h s = cc

layer_u8 : (o : V.Value-F Value) → is_u8 o ≡ true → sound_layer o ≡ true → IsText leaves.U8 (roll-Value o) (plain_text o)
layer_u8 (V.U8 n) h s =
    let small : n ≤ 0xFF = leb-true n 0xFF s in
    subst (λ (v : Value). IsText leaves.U8 v (decimal n)) (sym (plain.rolls-U8 n)) (u8_text n (decimal n) (decimal_is_number n (omega (arith, small))) small)
layer_u8 o h s = cc

layer_s16 : (o : V.Value-F Value) → is_s16 o ≡ true → sound_layer o ≡ true → IsText leaves.S16 (roll-Value o) (plain_text o)
layer_s16 (V.S16 n) h s =
    let small = range_of 0x7FFF n s in
    subst (λ (v : Value). IsText leaves.S16 v (signed_decimal n)) (sym (plain.rolls-S16 n)) (s16_text n (signed_decimal n) (signed_of 0x7FFF n (omega arith) small) small)
layer_s16 o h s = cc

layer_u16 : (o : V.Value-F Value) → is_u16 o ≡ true → sound_layer o ≡ true → IsText leaves.U16 (roll-Value o) (plain_text o)
layer_u16 (V.U16 n) h s =
    let small : n ≤ 0xFFFF = leb-true n 0xFFFF s in
    subst (λ (v : Value). IsText leaves.U16 v (decimal n)) (sym (plain.rolls-U16 n)) (u16_text n (decimal n) (decimal_is_number n (omega (arith, small))) small)
layer_u16 o h s = cc

layer_s32 : (o : V.Value-F Value) → is_s32 o ≡ true → sound_layer o ≡ true → IsText leaves.S32 (roll-Value o) (plain_text o)
layer_s32 (V.S32 n) h s =
    let small = range_of 0x7FFFFFFF n s in
    subst (λ (v : Value). IsText leaves.S32 v (signed_decimal n)) (sym (plain.rolls-S32 n)) (s32_text n (signed_decimal n) (signed_of 0x7FFFFFFF n (omega arith) small) small)
layer_s32 o h s = cc

layer_u32 : (o : V.Value-F Value) → is_u32 o ≡ true → sound_layer o ≡ true → IsText leaves.U32 (roll-Value o) (plain_text o)
layer_u32 (V.U32 n) h s =
    let small : n ≤ 0xFFFFFFFF = leb-true n 0xFFFFFFFF s in
    subst (λ (v : Value). IsText leaves.U32 v (decimal n)) (sym (plain.rolls-U32 n)) (u32_text n (decimal n) (decimal_is_number n (omega (arith, small))) small)
layer_u32 o h s = cc

layer_s64 : (o : V.Value-F Value) → is_s64 o ≡ true → sound_layer o ≡ true → IsText leaves.S64 (roll-Value o) (plain_text o)
layer_s64 (V.S64 n) h s =
    let small = range_of 0x7FFFFFFFFFFFFFFF n s in
    subst (λ (v : Value). IsText leaves.S64 v (signed_decimal n)) (sym (plain.rolls-S64 n)) (s64_text n (signed_decimal n) (signed_of 0x7FFFFFFFFFFFFFFF n (omega arith) small) small)
layer_s64 o h s = cc

layer_u64 : (o : V.Value-F Value) → is_u64 o ≡ true → sound_layer o ≡ true → IsText leaves.U64 (roll-Value o) (plain_text o)
layer_u64 (V.U64 n) h s =
    let small : n ≤ 0xFFFFFFFFFFFFFFFF = leb-true n 0xFFFFFFFFFFFFFFFF s in
    subst (λ (v : Value). IsText leaves.U64 v (decimal n)) (sym (plain.rolls-U64 n)) (u64_text n (decimal n) (decimal_is_number n (omega (arith, small))) small)
layer_u64 o h s = cc

pub written_bool : (v : Value) → test_of leaves.Bool v ≡ true → is_sound v ≡ true → IsText leaves.Bool v (writer leaves.Bool v)
written_bool = by_layer leaves.Bool is_bool plain_text fits_of_bool writer_of_bool layer_bool

pub written_s8 : (v : Value) → test_of leaves.S8 v ≡ true → is_sound v ≡ true → IsText leaves.S8 v (writer leaves.S8 v)
written_s8 = by_layer leaves.S8 is_s8 plain_text fits_of_s8 writer_of_s8 layer_s8

pub written_u8 : (v : Value) → test_of leaves.U8 v ≡ true → is_sound v ≡ true → IsText leaves.U8 v (writer leaves.U8 v)
written_u8 = by_layer leaves.U8 is_u8 plain_text fits_of_u8 writer_of_u8 layer_u8

pub written_s16 : (v : Value) → test_of leaves.S16 v ≡ true → is_sound v ≡ true → IsText leaves.S16 v (writer leaves.S16 v)
written_s16 = by_layer leaves.S16 is_s16 plain_text fits_of_s16 writer_of_s16 layer_s16

pub written_u16 : (v : Value) → test_of leaves.U16 v ≡ true → is_sound v ≡ true → IsText leaves.U16 v (writer leaves.U16 v)
written_u16 = by_layer leaves.U16 is_u16 plain_text fits_of_u16 writer_of_u16 layer_u16

pub written_s32 : (v : Value) → test_of leaves.S32 v ≡ true → is_sound v ≡ true → IsText leaves.S32 v (writer leaves.S32 v)
written_s32 = by_layer leaves.S32 is_s32 plain_text fits_of_s32 writer_of_s32 layer_s32

pub written_u32 : (v : Value) → test_of leaves.U32 v ≡ true → is_sound v ≡ true → IsText leaves.U32 v (writer leaves.U32 v)
written_u32 = by_layer leaves.U32 is_u32 plain_text fits_of_u32 writer_of_u32 layer_u32

pub written_s64 : (v : Value) → test_of leaves.S64 v ≡ true → is_sound v ≡ true → IsText leaves.S64 v (writer leaves.S64 v)
written_s64 = by_layer leaves.S64 is_s64 plain_text fits_of_s64 writer_of_s64 layer_s64

pub written_u64 : (v : Value) → test_of leaves.U64 v ≡ true → is_sound v ≡ true → IsText leaves.U64 v (writer leaves.U64 v)
written_u64 = by_layer leaves.U64 is_u64 plain_text fits_of_u64 writer_of_u64 layer_u64

pub written_char : (v : Value) → test_of leaves.Char v ≡ true → is_sound v ≡ true → IsText leaves.Char v (writer leaves.Char v)
written_char = by_layer leaves.Char is_char plain_text fits_of_char writer_of_char layer_char

pub written_string : (v : Value) → test_of leaves.String v ≡ true → is_sound v ≡ true → IsText leaves.String v (writer leaves.String v)
written_string = by_layer leaves.String is_string plain_text fits_of_string writer_of_string layer_string
