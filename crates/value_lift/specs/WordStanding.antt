-- Which value of a type some core values stand for, over a memory (Component Model, CanonicalABI.md, "Flat Lifting"), by cases on the
-- value. That they are of the type's core types is not said here: `specs/Stored` says it of the whole. A handle and the end of a
-- stream or a future are told by their index, in the place of what it names. `specs/Lifting` computes what this says; the laws in
-- `specs/Laws` say that both are the same.
use Rattle.std.specs.Prelude.{◌≡◌, ◌≢◌, ◌≤◌, ◌<◌, ◌+◌, ◌*◌, ◌%◌, ◌^◌, ℕ, Bool, true, false, IsTrue, List, [], ◌∷◌, ◌++◌, map, length, Option, Some, None}
use Rattle.std.specs.List.{slice_get}
use Rattle.std.specs.Int.{w8, w16, w32, w64, cast_signed}
use Rattle.std.specs.Str.{IsUtf8}
use Rattle.syntax_trees.specs.declared.core_type.CoreType.{CoreType}
use Rattle.syntax_trees.specs.declared.core_type.CoreType.TheVariants.{I32, I64}
use Rattle.syntax_trees.specs.declared.types.ValType.{ValType}
use Rattle.syntax_trees.specs.declared.types.Field.{Field}
use Rattle.syntax_trees.specs.declared.types.Case.{Case}
use Rattle.syntax_trees.specs.declared.types.ValType.TheViews as types
use Rattle.syntax_trees.specs.declared.types.ValType.TheVariants as leaves
use Rattle.syntax_trees.specs.declared.value.Value.{Value}
use Rattle.syntax_trees.specs.declared.value.Value.TheViews as values
use Rattle.syntax_trees.specs.declared.value.Value.TheVariants as plain
use Rattle.laid_types.specs.Layout.{laid}
use Rattle.syntax_trees.specs.Flat.{flat}
use Rattle.value_lift.specs.Bytes.{bytes_at, is_scalar}
use Rattle.value_lift.specs.Standing.{AreBits, AreElements}

-- core values of these types, below 2^32 and 2^64
abbrev pub AreWords : List CoreType → List ℕ → Type 0
AreWords [] [] = Unit {0}
AreWords [] (w ∷ words) = ⊥
AreWords (t ∷ types) [] = ⊥
AreWords (I32 ∷ types) (w ∷ words) = (w < 2 ^ 32) × AreWords types words
AreWords (I64 ∷ types) (w ∷ words) = (w < 2 ^ 64) × AreWords types words

-- The first of some core values, as ones of these types: an i64 that stands for an i32 is wrapped.
abbrev pub wrapped : List CoreType → List ℕ → List ℕ
wrapped [] words = []
wrapped (t ∷ types) [] = []
wrapped (I32 ∷ types) (w ∷ words) = w % 2 ^ 32 ∷ wrapped types words
wrapped (I64 ∷ types) (w ∷ words) = w % 2 ^ 64 ∷ wrapped types words

mutual
  pub data FlatOf (memory : List ℕ) : ValType → Value → List ℕ → Type 0 where
    -- A truth value is false where it is 0.
    false_flat : FlatOf memory leaves.Bool (plain.Bool false) (0 ∷ [])
    true_flat : (w : ℕ) → w ≢ 0 → FlatOf memory leaves.Bool (plain.Bool true) (w ∷ [])
    -- Narrow integers are the low bits.
    s8_flat : (w : ℕ) → FlatOf memory leaves.S8 (plain.S8 (cast_signed w8 (w % 2 ^ 8))) (w ∷ [])
    u8_flat : (w : ℕ) → FlatOf memory leaves.U8 (plain.U8 (w % 2 ^ 8)) (w ∷ [])
    s16_flat : (w : ℕ) → FlatOf memory leaves.S16 (plain.S16 (cast_signed w16 (w % 2 ^ 16))) (w ∷ [])
    u16_flat : (w : ℕ) → FlatOf memory leaves.U16 (plain.U16 (w % 2 ^ 16)) (w ∷ [])
    s32_flat : (w : ℕ) → FlatOf memory leaves.S32 (plain.S32 (cast_signed w32 w)) (w ∷ [])
    u32_flat : (w : ℕ) → FlatOf memory leaves.U32 (plain.U32 w) (w ∷ [])
    s64_flat : (w : ℕ) → FlatOf memory leaves.S64 (plain.S64 (cast_signed w64 w)) (w ∷ [])
    u64_flat : (w : ℕ) → FlatOf memory leaves.U64 (plain.U64 w) (w ∷ [])
    char_flat : (w : ℕ) → IsTrue (is_scalar w) → FlatOf memory leaves.Char (plain.Char w) (w ∷ [])
    -- A handle is its index.
    own_flat : (resource w : ℕ) → FlatOf memory (leaves.Own resource) (plain.Own (record { resource = resource; rep = w })) (w ∷ [])
    borrow_flat : (resource w : ℕ) → FlatOf memory (leaves.Borrow resource) (plain.Borrow (record { resource = resource; rep = w })) (w ∷ [])
    -- So is the end of a stream or a future.
    stream_flat : (element : Option ValType) (w : ℕ) → FlatOf memory (types.Stream element) (plain.Stream w) (w ∷ [])
    future_flat : (element : Option ValType) (w : ℕ) → FlatOf memory (types.Future element) (plain.Future w) (w ∷ [])
    -- Texts and lists are a place in the memory and a number of bytes or elements.
    string_flat : (at count : ℕ) → at + count ≤ length memory → IsUtf8 (bytes_at at count memory)
        → FlatOf memory leaves.String (plain.String (bytes_at at count memory)) (at ∷ count ∷ [])
    list_flat : (at : ℕ) (element : ValType) (all : List Value) → at % (laid element).align ≡ 0 → at + length all * (laid element).size ≤ length memory
        → AreElements memory at element all → FlatOf memory (types.List element) (values.List all) (at ∷ length all ∷ [])
    -- A record is its fields, one after the other; a tuple is the record of its places.
    record_flat : (fields : List Field) (all : List Value) (words : List ℕ) → AreFlat memory (map (λ (f : Field). f.val_type) fields) all words
        → FlatOf memory (types.Record fields) (values.Record all) words
    tuple_flat : (parts : List ValType) (all : List Value) (words : List ℕ) → AreFlat memory parts all words → FlatOf memory (types.Tuple parts) (values.Record all) words
    -- Flags are bits. Bits above are ignored.
    flags_flat : (labels : List (List ℕ)) (flags : List Bool) (w : ℕ) → AreBits labels w flags → FlatOf memory (leaves.Flags labels) (plain.Flags flags) (w ∷ [])
    -- A variant is the number of its case, and behind it what the payloads share.
    case_flat : (n : ℕ) (cases : List Case) (c : Case) (payload : Option Value) (words : List ℕ) → slice_get cases n ≡ Some c
        → IsFlatPayload memory c.payload payload words → FlatOf memory (types.Variant cases) (values.Variant n payload) (n ∷ words)
    enum_flat : (n : ℕ) (labels : List (List ℕ)) → n < length labels → FlatOf memory (leaves.Enum labels) (values.Variant n None) (n ∷ [])
    none_flat : (part : ValType) (words : List ℕ) → FlatOf memory (types.Option part) (values.Variant 0 None) (0 ∷ words)
    some_flat : (part : ValType) (payload : Option Value) (words : List ℕ) → IsFlatPayload memory (Some part) payload words
        → FlatOf memory (types.Option part) (values.Variant 1 payload) (1 ∷ words)
    ok_flat : (ok err : Option ValType) (payload : Option Value) (words : List ℕ) → IsFlatPayload memory ok payload words
        → FlatOf memory (types.Result ok err) (values.Variant 0 payload) (0 ∷ words)
    err_flat : (ok err : Option ValType) (payload : Option Value) (words : List ℕ) → IsFlatPayload memory err payload words
        → FlatOf memory (types.Result ok err) (values.Variant 1 payload) (1 ∷ words)

  -- values of these types, one after the other
  pub data AreFlat (memory : List ℕ) : List ValType → List Value → List ℕ → Type 0 where
    no_flat : AreFlat memory [] [] []
    more_flat : (t : ValType) (types : List ValType) (v : Value) (all : List Value) (words others : List ℕ) → length words ≡ length (flat t) → FlatOf memory t v words
        → AreFlat memory types all others → AreFlat memory (t ∷ types) (v ∷ all) (words ++ others)

  -- A payload exactly where there is a type for it: it stands in the first of the core values, each wrapped where it is an i64 for an
  -- i32. Those behind are filling.
  pub data IsFlatPayload (memory : List ℕ) : Option ValType → Option Value → List ℕ → Type 0 where
    no_flat_payload : (words : List ℕ) → IsFlatPayload memory None None words
    flat_payload_of : (t : ValType) (v : Value) (words : List ℕ) → FlatOf memory t v (wrapped (flat t) words) → IsFlatPayload memory (Some t) (Some v) words
