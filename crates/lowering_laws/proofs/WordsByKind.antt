-- What is lowered into core values is what they stand for, by the kind of the type, where that is so of its parts.
use Rattle.std.proofs.Common.{◌≡◌, ◌∙◌, ◌<◌, ◌+◌, ◌-◌, ◌*◌, ◌^◌, ℕ, ℤ, suc, Bool, true, false, List, [], ◌∷◌, ◌++◌, map, length, replicate, Option, Some, None, refl, ap, sym, subst, arith, mod-eq_of_lt, append_assoc}
use Rattle.std.proofs.lemmas.List.{length-map, length-append}
use Rattle.std.specs.Int.{w8, w16, w32, w64, cast_signed, cast_unsigned}
use Rattle.std.specs.Prelude.{IsTrue, FitsSigned}
use Rattle.std.specs.Str.{IsUtf8}
use Rattle.syntax_trees.specs.declared.core_type.CoreType.{CoreType}
use Rattle.syntax_trees.specs.declared.core_type.CoreType.TheVariants.{I32, I64}
use Rattle.syntax_trees.specs.declared.types.ValType.{ValType, out-ValType}
use Rattle.syntax_trees.specs.declared.types.Case.{Case}
use Rattle.syntax_trees.specs.declared.types.Field.{Field}
use Rattle.syntax_trees.specs.declared.types.ValType.TheOpen as F
use Rattle.syntax_trees.specs.declared.types.ValType.TheViews as types
use Rattle.syntax_trees.specs.declared.types.ValType.TheVariants as leaves
use Rattle.syntax_trees.specs.declared.value.Value.{Value, roll-Value}
use Rattle.syntax_trees.specs.declared.value.Value.TheOpen as V
use Rattle.syntax_trees.specs.declared.value.Value.TheViews as values
use Rattle.syntax_trees.specs.declared.value.Value.TheVariants as plain
use Rattle.syntax_trees.specs.declared.value.Value.TheFolds.{fold-roll-Value, map-Value}
use Rattle.laid_types.specs.Layout.{laid}
use Rattle.syntax_trees.specs.Flat.{flat, flat_step, flat_payload, all_of}
use Rattle.laid_types.specs.Parts.{parts_of, parts_case, part_at}
use Rattle.value_lower.specs.Plan.{Plan, Put}
use Rattle.value_lower.specs.Lowering.{Lowered, lowered, lower_step, flat_words, words_case, asked, list_in, elements_from, field_words, payload_words, case_words, filled, bits_of}
use Rattle.value_lift.specs.Bytes.{bytes_at, is_scalar}
use Rattle.value_lift.specs.Pieces.{part_in}
use Rattle.value_lift.specs.Standing.{AreElements}
use Rattle.value_lift.specs.WordStanding.{AreWords, FlatOf, AreFlat, IsFlatPayload, false_flat, true_flat, s8_flat, u8_flat, s16_flat, u16_flat, s32_flat, u32_flat, s64_flat, u64_flat, char_flat, own_flat, borrow_flat, stream_flat, future_flat, string_flat, list_flat, flags_flat}
use Rattle.value_lift.specs.Stored.{IsFlattened}
use Rattle.value_lift.proofs.Equations.{flats_in, flat_is}
use Rattle.value_lift.proofs.Forms.{HasCases}
use Rattle.value_lift.proofs.Views.{out_bool, out_s8, out_u8, out_s16, out_u16, out_s32, out_u32, out_s64, out_u64, out_char, out_own, out_borrow, out_string, out_flags, out_list}
use Rattle.value_lift.proofs.WordStood.{flat_of_stream, flat_of_future}
use Rattle.value_lift.proofs.Wrapped.{Below, Shares, shares, words_many, below_length}
use Rattle.lowering_laws.specs.Settling.{Settles}
use Rattle.lowering_laws.proofs.Going.{Goes, Went, went_more, goes_put, region}
use Rattle.lowering_laws.proofs.Numbers.{are_bits, unsigned_below, signed_back}
use Rattle.lowering_laws.proofs.ByKind.{lowered_payload}
use Rattle.lowering_laws.proofs.LoweredWords.{GoesWords, words_now, words_asked, filled_are, low_bits_8, low_bits_16, word_8, word_16}

-- The core values that a value of this type is lowered into stand for it.
abbrev pub Flat : ValType → Value → Type 0
Flat t v = GoesWords (flat_words t v) (λ ws m. IsFlattened m t v ws)

pub words_by : (v : Value) (y : V.Value-F Value) (t : ValType) (before : List ℕ) (K : List ℕ → Plan) → roll-Value y ≡ v → flat_words t v before K ≡ words_case (map-Value Value Lowered lowered y) t before K
words_by v y t before K e = ap (λ (l : Lowered). l.words t before K) (ap lowered (sym e) ∙ fold-roll-Value Lowered lower_step y)

pub types_of : (t : ValType) (y : F.ValType-F ValType Case Field) → out-ValType t ≡ y → flat t ≡ flat_step (flats_in y)
types_of t y e = flat_is t ∙ ap (λ (y : F.ValType-F ValType Case Field). flat_step (flats_in y)) e

-- one core value
pub one_32 : (t : ValType) (w : ℕ) → flat t ≡ I32 ∷ [] → w < 2 ^ 32 → AreWords (flat t) (w ∷ [])
one_32 t w e h = subst (λ (ts : List CoreType). AreWords ts (w ∷ [])) (sym e) (h, tt)

pub one_64 : (t : ValType) (w : ℕ) → flat t ≡ I64 ∷ [] → w < 2 ^ 64 → AreWords (flat t) (w ∷ [])
one_64 t w e h = subst (λ (ts : List CoreType). AreWords ts (w ∷ [])) (sym e) (h, tt)

pub two_32 : (t : ValType) (v w : ℕ) → flat t ≡ I32 ∷ I32 ∷ [] → v < 2 ^ 32 → w < 2 ^ 32 → AreWords (flat t) (v ∷ w ∷ [])
two_32 t v w e h i = subst (λ (ts : List CoreType). AreWords ts (v ∷ w ∷ [])) (sym e) (h, (i, tt))

leaf : (t : ValType) (v : Value) (w : ℕ) → ((before : List ℕ) (K : List ℕ → Plan) → flat_words t v before K ≡ K (before ++ w ∷ [])) → AreWords (flat t) (w ∷ [])
    → ((m : List ℕ) → FlatOf m t v (w ∷ [])) → Flat t v
leaf t v w e typed stands = words_now (flat_words t v) (λ ws m. IsFlattened m t v ws) (w ∷ []) e (λ m. record { typed = typed; stands = stands m })

pub bool_flat : (b : Bool) → Flat leaves.Bool (plain.Bool b)
bool_flat true =
    leaf leaves.Bool (plain.Bool true) 1 (λ before K. words_by (plain.Bool true) (V.Bool true) leaves.Bool before K (plain.rolls-Bool true)) (one_32 leaves.Bool 1 (types_of leaves.Bool F.Bool out_bool) (omega arith))
    (λ m. true_flat 1 (λ e. (let n : ⊥ = omega (arith, e) in n)))
bool_flat false =
    leaf leaves.Bool (plain.Bool false) 0 (λ before K. words_by (plain.Bool false) (V.Bool false) leaves.Bool before K (plain.rolls-Bool false)) (one_32 leaves.Bool 0 (types_of leaves.Bool F.Bool out_bool) (omega arith))
    (λ m. false_flat)

pub s8_lowered : (n : ℤ) → FitsSigned w8 n → Flat leaves.S8 (plain.S8 n)
s8_lowered n f =
    let w : ℕ = cast_unsigned w32 n in
    leaf leaves.S8 (plain.S8 n) w (λ before K. words_by (plain.S8 n) (V.S8 n) leaves.S8 before K (plain.rolls-S8 n)) (one_32 leaves.S8 w (types_of leaves.S8 F.S8 out_s8) (word_8 n f))
    (λ m. subst (λ (i : ℤ). FlatOf m leaves.S8 (plain.S8 i) (w ∷ [])) (ap (cast_signed w8) (low_bits_8 n f) ∙ signed_back w8 n f) (s8_flat w))

pub u8_lowered : (n : ℕ) → n < 2 ^ 8 → Flat leaves.U8 (plain.U8 n)
u8_lowered n f =
    leaf leaves.U8 (plain.U8 n) n (λ before K. words_by (plain.U8 n) (V.U8 n) leaves.U8 before K (plain.rolls-U8 n)) (one_32 leaves.U8 n (types_of leaves.U8 F.U8 out_u8) (omega (arith, f)))
    (λ m. subst (λ (i : ℕ). FlatOf m leaves.U8 (plain.U8 i) (n ∷ [])) (mod-eq_of_lt f) (u8_flat n))

pub s16_lowered : (n : ℤ) → FitsSigned w16 n → Flat leaves.S16 (plain.S16 n)
s16_lowered n f =
    let w : ℕ = cast_unsigned w32 n in
    leaf leaves.S16 (plain.S16 n) w (λ before K. words_by (plain.S16 n) (V.S16 n) leaves.S16 before K (plain.rolls-S16 n)) (one_32 leaves.S16 w (types_of leaves.S16 F.S16 out_s16) (word_16 n f))
    (λ m. subst (λ (i : ℤ). FlatOf m leaves.S16 (plain.S16 i) (w ∷ [])) (ap (cast_signed w16) (low_bits_16 n f) ∙ signed_back w16 n f) (s16_flat w))

pub u16_lowered : (n : ℕ) → n < 2 ^ 16 → Flat leaves.U16 (plain.U16 n)
u16_lowered n f =
    leaf leaves.U16 (plain.U16 n) n (λ before K. words_by (plain.U16 n) (V.U16 n) leaves.U16 before K (plain.rolls-U16 n)) (one_32 leaves.U16 n (types_of leaves.U16 F.U16 out_u16) (omega (arith, f)))
    (λ m. subst (λ (i : ℕ). FlatOf m leaves.U16 (plain.U16 i) (n ∷ [])) (mod-eq_of_lt f) (u16_flat n))

pub s32_lowered : (n : ℤ) → FitsSigned w32 n → Flat leaves.S32 (plain.S32 n)
s32_lowered n f =
    let w : ℕ = cast_unsigned w32 n in
    leaf leaves.S32 (plain.S32 n) w (λ before K. words_by (plain.S32 n) (V.S32 n) leaves.S32 before K (plain.rolls-S32 n)) (one_32 leaves.S32 w (types_of leaves.S32 F.S32 out_s32) (unsigned_below w32 n f))
    (λ m. subst (λ (i : ℤ). FlatOf m leaves.S32 (plain.S32 i) (w ∷ [])) (signed_back w32 n f) (s32_flat w))

pub u32_lowered : (n : ℕ) → n < 2 ^ 32 → Flat leaves.U32 (plain.U32 n)
u32_lowered n f =
    leaf leaves.U32 (plain.U32 n) n (λ before K. words_by (plain.U32 n) (V.U32 n) leaves.U32 before K (plain.rolls-U32 n)) (one_32 leaves.U32 n (types_of leaves.U32 F.U32 out_u32) f) (λ m. u32_flat n)

pub s64_lowered : (n : ℤ) → FitsSigned w64 n → Flat leaves.S64 (plain.S64 n)
s64_lowered n f =
    let w : ℕ = cast_unsigned w64 n in
    leaf leaves.S64 (plain.S64 n) w (λ before K. words_by (plain.S64 n) (V.S64 n) leaves.S64 before K (plain.rolls-S64 n)) (one_64 leaves.S64 w (types_of leaves.S64 F.S64 out_s64) (unsigned_below w64 n f))
    (λ m. subst (λ (i : ℤ). FlatOf m leaves.S64 (plain.S64 i) (w ∷ [])) (signed_back w64 n f) (s64_flat w))

pub u64_lowered : (n : ℕ) → n < 2 ^ 64 → Flat leaves.U64 (plain.U64 n)
u64_lowered n f =
    leaf leaves.U64 (plain.U64 n) n (λ before K. words_by (plain.U64 n) (V.U64 n) leaves.U64 before K (plain.rolls-U64 n)) (one_64 leaves.U64 n (types_of leaves.U64 F.U64 out_u64) f) (λ m. u64_flat n)

pub char_lowered : (c : ℕ) → c < 2 ^ 32 → IsTrue (is_scalar c) → Flat leaves.Char (plain.Char c)
char_lowered c low f =
    leaf leaves.Char (plain.Char c) c (λ before K. words_by (plain.Char c) (V.Char c) leaves.Char before K (plain.rolls-Char c)) (one_32 leaves.Char c (types_of leaves.Char F.Char out_char) low) (λ m. char_flat c f)

-- Handles and ends, which are told by a number.
pub own_lowered : (resource n : ℕ) → n < 2 ^ 32 → Flat (leaves.Own resource) (plain.Own (record { resource = resource; rep = n }))
own_lowered resource n f =
    leaf (leaves.Own resource) (plain.Own (record { resource = resource; rep = n })) n (λ before K. words_by (plain.Own (record { resource = resource; rep = n })) (V.Own (record { resource = resource; rep = n })) (leaves.Own resource) before K (plain.rolls-Own (record { resource = resource; rep = n }))) (one_32 (leaves.Own resource) n (types_of (leaves.Own resource) (F.Own resource) (out_own resource)) f) (λ m. own_flat resource n)

pub borrow_lowered : (resource n : ℕ) → n < 2 ^ 32 → Flat (leaves.Borrow resource) (plain.Borrow (record { resource = resource; rep = n }))
borrow_lowered resource n f =
    leaf (leaves.Borrow resource) (plain.Borrow (record { resource = resource; rep = n })) n (λ before K. words_by (plain.Borrow (record { resource = resource; rep = n })) (V.Borrow (record { resource = resource; rep = n })) (leaves.Borrow resource) before K (plain.rolls-Borrow (record { resource = resource; rep = n }))) (one_32 (leaves.Borrow resource) n (types_of (leaves.Borrow resource) (F.Borrow resource) (out_borrow resource)) f) (λ m. borrow_flat resource n)

pub stream_lowered : (element : Option ValType) (n : ℕ) → n < 2 ^ 32 → Flat (types.Stream element) (plain.Stream n)
stream_lowered element n f =
    leaf (types.Stream element) (plain.Stream n) n (λ before K. words_by (plain.Stream n) (V.Stream n) (types.Stream element) before K (plain.rolls-Stream n)) (one_32 (types.Stream element) n (flat_of_stream element) f) (λ m. stream_flat element n)

pub future_lowered : (element : Option ValType) (n : ℕ) → n < 2 ^ 32 → Flat (types.Future element) (plain.Future n)
future_lowered element n f =
    leaf (types.Future element) (plain.Future n) n (λ before K. words_by (plain.Future n) (V.Future n) (types.Future element) before K (plain.rolls-Future n)) (one_32 (types.Future element) n (flat_of_future element) f) (λ m. future_flat element n)

-- Flags.
pub flags_lowered : (labels : List (List ℕ)) (flags : List Bool) → length flags ≡ length labels → bits_of flags < 2 ^ 32 → Flat (leaves.Flags labels) (plain.Flags flags)
flags_lowered labels flags many low =
    let t : ValType = leaves.Flags labels in
    let v : Value = plain.Flags flags in
    let n : ℕ = bits_of flags in
    leaf t v n (λ before K. words_by v (V.Flags flags) t before K (plain.rolls-Flags flags) ∙ ap (λ (i : ℕ). K (before ++ i ∷ [])) (mod-eq_of_lt low)) (one_32 t n (types_of t (F.Flags labels) (out_flags labels)) low)
    (λ m. flags_flat labels flags n (are_bits labels flags many))

-- Texts.
pub string_lowered : (text : List ℕ) → IsUtf8 text → Flat leaves.String (plain.String text)
string_lowered text utf8 =
    let count : ℕ = length text in
    let t : ValType = leaves.String in
    let v : Value = plain.String text in
    let Post : ℕ → List ℕ → Type 0 = λ to m. bytes_at to count m ≡ text in
    words_asked (flat_words t v) count 1 count (λ to k. Put to text k) Post (λ ws m. IsFlattened m t v ws) (λ before K. words_by v (V.String text) t before K (plain.rolls-String text)) (λ to. goes_put to text)
    (λ m to low few aligned inside post. record {
      typed = two_32 t to count (types_of t F.String out_string) low few;
      stands =
          subst (λ (s : List ℕ). FlatOf m t (plain.String s) (to ∷ count ∷ [])) post
          (string_flat to count inside (subst (λ (s : List ℕ). IsUtf8 s) (sym post) utf8));
    })

-- Lists.
pub list_words : (element : ValType) (all : List Value) (before : List ℕ) (K : List ℕ → Plan) → flat_words (types.List element) (values.List all) before K
    ≡ asked (length all) (laid element).align (length all * (laid element).size) (λ to. elements_from element to (map lowered all) (K (before ++ to ∷ length all ∷ [])))
list_words element all before K =
    let part : part_at (types.List element) 0 ≡ Some element = ap (λ (y : F.ValType-F ValType Case Field). part_in (parts_case y) 0) (out_list element) in
    words_by (values.List all) (V.List all) (types.List element) before K (plain.rolls-List all)
    ∙ ap (λ (p : Option ValType). list_in p (map lowered all) (λ to. K (before ++ to ∷ length (map lowered all) ∷ []))) part
    ∙ ap (λ (n : ℕ). asked n (laid element).align (n * (laid element).size) (λ to. elements_from element to (map lowered all) (K (before ++ to ∷ n ∷ [])))) (length-map all lowered)

pub list_lowered : (element : ValType) (all : List Value)
    → ((at : ℕ) → Goes (elements_from element at (map lowered all)) at (length all * (laid element).size) (λ m. AreElements m at element all)) → Flat (types.List element) (values.List all)
list_lowered element all parts =
    let count : ℕ = length all in
    let t : ValType = types.List element in
    let v : Value = values.List all in
    let bytes : ℕ = count * (laid element).size in
    let Post : ℕ → List ℕ → Type 0 = λ to m. AreElements m to element all in
    words_asked (flat_words t v) count (laid element).align bytes (λ to k. elements_from element to (map lowered all) k) Post (λ ws m. IsFlattened m t v ws) (list_words element all)
    (λ to. parts to)
    (λ m to low few aligned inside post. record {
      typed = two_32 t to count (types_of t (F.List element) (out_list element)) low few;
      stands = list_flat to element all aligned inside post;
    })

-- Records and tuples.
abbrev pub FieldsFlat : List ValType → List Value → Type 0
FieldsFlat types all = GoesWords (field_words (map (λ (t : ValType). Some t) types) (map lowered all)) (λ ws m. AreWords (all_of (map flat types)) ws × AreFlat m types all ws)

pub row_words : (t : ValType) (types : List ValType) (all : List Value) → parts_of t ≡ map (λ (t : ValType). Some t) types → (before : List ℕ) (K : List ℕ → Plan)
    → flat_words t (values.Record all) before K ≡ field_words (map (λ (t : ValType). Some t) types) (map lowered all) before K
row_words t types all e before K =
    words_by (values.Record all) (V.Record all) t before K (plain.rolls-Record all) ∙ ap (λ (ts : List (Option ValType)). field_words ts (map lowered all) before K) e

pub row_lowered : (t : ValType) (types : List ValType) (all : List Value) → parts_of t ≡ map (λ (t : ValType). Some t) types → flat t ≡ all_of (map flat types) → FieldsFlat types all
    → ((m ws : List ℕ) → AreFlat m types all ws → FlatOf m t (values.Record all) ws) → Flat t (values.Record all)
row_lowered t types all e f parts stands before K regions memory answers after given apart settles =
    let v : Value = values.Record all in
    let w =
    parts before K regions memory answers after given apart
    (subst (λ (p : Plan). Settles p memory answers after given) (row_words t types all e before K) settles) in
    record {
      words = w.words;
      went =
          went_more (K (before ++ w.words)) (region 0 0) regions memory after given (λ m. AreWords (all_of (map flat types)) w.words × AreFlat m types all w.words) (λ m. IsFlattened m t v w.words)
          (λ m h. record { typed = subst (λ (ts : List CoreType). AreWords ts w.words) (sym f) h.0; stands = stands m w.words h.1 }) w.went;
    }

-- Cases.
abbrev pub PayloadFlat : Option ValType → Option Value → Type 0
PayloadFlat p payload = GoesWords (payload_words p (lowered_payload payload)) (λ ws m. AreWords (flat_payload p) ws × ((zs : List ℕ) → IsFlatPayload m p payload (ws ++ zs)))

variant_words : (n : ℕ) (payload : Option Value) (t : ValType) (before : List ℕ) (K : List ℕ → Plan) → flat_words t (values.Variant n payload) before K ≡ case_words t n (lowered_payload payload) before K
variant_words n (Some v) t before K = words_by (values.Variant n (Some v)) (V.Variant n (Some v)) t before K (plain.rolls-Variant n (Some v))
variant_words n None t before K = words_by (values.Variant n None) (V.Variant n None) t before K (plain.rolls-Variant n None)

payload_below : (types : List CoreType) (p : Option ValType) → ((q : ValType) → p ≡ Some q → Below (flat q) types) → Below (flat_payload p) types
payload_below types (Some q) h = h q refl
payload_below types None h = tt

-- the zeros behind the number of a case and its payload
abbrev pub case_zeros : ValType → ℕ → List ℕ → List ℕ → List ℕ
case_zeros t n before ws = replicate (length (flat t) - (length ((before ++ n ∷ []) ++ ws) - length before)) 0

pub case_same : (t : ValType) (n : ℕ) (before ws : List ℕ) → filled (length (flat t)) (length before) ((before ++ n ∷ []) ++ ws) ≡ before ++ n ∷ (ws ++ case_zeros t n before ws)
case_same t n before ws =
    let zs : List ℕ = case_zeros t n before ws in
    append_assoc (before ++ n ∷ []) ws zs ∙ append_assoc before (n ∷ []) (ws ++ zs)

pub case_plan : (t : ValType) (y : F.ValType-F ValType Case Field) (n : ℕ) (p : Option ValType) (payload : Option Value) → out-ValType t ≡ y → part_in (parts_case y) n ≡ p
    → (before : List ℕ) (K : List ℕ → Plan)
    → flat_words t (values.Variant n payload) before K ≡ payload_words p (lowered_payload payload) (before ++ n ∷ []) (λ ws. K (filled (length (flat t)) (length before) ws))
case_plan t y n p payload e at before K =
    let part : part_at t n ≡ p = ap (λ (y : F.ValType-F ValType Case Field). part_in (parts_case y) n) e ∙ at in
    variant_words n payload t before K ∙ ap (λ (o : Option ValType). payload_words o (lowered_payload payload) (before ++ n ∷ []) (λ ws. K (filled (length (flat t)) (length before) ws))) part

pub case_typed : (t : ValType) (y : F.ValType-F ValType Case Field) (n : ℕ) (p : Option ValType) → out-ValType t ≡ y → HasCases y → n < 2 ^ 32 → part_in (parts_case y) n ≡ p
    → (before ws : List ℕ) → AreWords (flat_payload p) ws → AreWords (flat t) (n ∷ (ws ++ case_zeros t n before ws))
case_typed t y n p e kind low at before ws a =
    let s : Shares y = shares y kind in
    let is : flat t ≡ I32 ∷ s.types = types_of t y e ∙ s.is in
    let many : length (flat t) ≡ suc (length s.types) = ap (λ (ts : List CoreType). length ts) is in
    let whole : List ℕ = (before ++ n ∷ []) ++ ws in
    let c : ℕ = length (flat t) - (length whole - length before) in
    let long : length whole ≡ length (before ++ n ∷ []) + length ws = length-append (before ++ n ∷ []) ws in
    let front : length (before ++ n ∷ []) ≡ length before + 1 = length-append before (n ∷ []) in
    let under : Below (flat_payload p) s.types = payload_below s.types p (λ q f. s.below n q (at ∙ f)) in
    let count : length ws ≡ length (flat_payload p) = words_many (flat_payload p) ws a in
    let fill : length ws + c ≡ length s.types = omega (arith, long, front, many, count, below_length (flat_payload p) s.types under) in
    subst (λ (ts : List CoreType). AreWords ts (n ∷ (ws ++ case_zeros t n before ws))) (sym is) (low, filled_are (flat_payload p) s.types ws c under a fill)

pub case_lowered : (t : ValType) (y : F.ValType-F ValType Case Field) (n : ℕ) (p : Option ValType) (payload : Option Value) → out-ValType t ≡ y → HasCases y → n < 2 ^ 32
    → part_in (parts_case y) n ≡ p → PayloadFlat p payload
    → ((m ws : List ℕ) → AreWords (flat t) (n ∷ ws) → IsFlatPayload m p payload ws → FlatOf m t (values.Variant n payload) (n ∷ ws)) → Flat t (values.Variant n payload)
case_lowered t y n p payload e kind low at goes stands before K regions memory answers after given apart settles =
    let v : Value = values.Variant n payload in
    let Q : List ℕ → Plan = λ ws. K (filled (length (flat t)) (length before) ws) in
    let w =
    goes (before ++ n ∷ []) Q regions memory answers after given apart
    (subst (λ (q : Plan). Settles q memory answers after given) (case_plan t y n p payload e at before K) settles) in
    let ws : List ℕ = w.words in
    let zs : List ℕ = case_zeros t n before ws in
    record {
      words = n ∷ (ws ++ zs);
      went =
          subst (λ (l : List ℕ). Went (K l) (region 0 0) regions memory after given (λ m. IsFlattened m t v (n ∷ (ws ++ zs)))) (case_same t n before ws)
          (went_more (Q ((before ++ n ∷ []) ++ ws)) (region 0 0) regions memory after given (λ m. AreWords (flat_payload p) ws × ((zs : List ℕ) → IsFlatPayload m p payload (ws ++ zs)))
          (λ m. IsFlattened m t v (n ∷ (ws ++ zs)))
          (λ m h.
          let typed : AreWords (flat t) (n ∷ (ws ++ zs)) = case_typed t y n p e kind low at before ws h.0 in
          record { typed = typed; stands = stands m (ws ++ zs) typed (h.1 zs) })
          w.went);
    }
