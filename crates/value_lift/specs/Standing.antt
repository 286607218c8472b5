-- Which value of a type stands at a place of a memory (Component Model, CanonicalABI.md, "Loading"), by cases on the value. That the
-- place is a multiple of the alignment, and that all bytes of the value are inside, is not said here, since for its parts it follows
-- from the same of the whole: `specs/Stored` says it of the whole. A handle and the end of a stream or a future are told by
-- their index, in the place of what it names. `specs/Lifting` computes what this says; the laws in `specs/Laws` say that both are the same.
use Rattle.std.specs.Prelude.{◌≡◌, ◌≢◌, ◌≤◌, ◌<◌, ◌+◌, ◌*◌, ◌%◌, ◌/◌, ℕ, suc, Bool, true, false, IsTrue, List, [], ◌∷◌, map, length, Option, Some, None}
use Rattle.std.specs.List.{slice_get}
use Rattle.std.specs.Int.{w8, w16, w32, w64, cast_signed}
use Rattle.std.specs.Str.{IsUtf8}
use Rattle.syntax_trees.specs.declared.types.ValType.{ValType}
use Rattle.syntax_trees.specs.declared.types.Field.{Field}
use Rattle.syntax_trees.specs.declared.types.Case.{Case}
use Rattle.syntax_trees.specs.declared.types.ValType.TheViews as types
use Rattle.syntax_trees.specs.declared.types.ValType.TheVariants as leaves
use Rattle.syntax_trees.specs.declared.value.Value.{Value, fold-Value}
use Rattle.syntax_trees.specs.declared.value.Value.TheOpen.{Value-F}
use Rattle.syntax_trees.specs.declared.value.Value.TheViews as values
use Rattle.syntax_trees.specs.declared.value.Value.TheVariants as plain
use Rattle.laid_types.specs.Layout.{laid, aligned, tag_size, bits_size}
use Rattle.laid_types.specs.Parts.{payload_place}
use Rattle.value_lift.specs.Bytes.{number, bytes_at, width_of, is_scalar}

-- the number of one of so many cases
abbrev pub tag : ℕ → ℕ → List ℕ → ℕ
tag count place memory = number (width_of (tag_size count)) place memory

-- a flag for each label: the lowest bits of a number, the first label's first
abbrev pub AreBits : List (List ℕ) → ℕ → List Bool → Type 0
AreBits [] bits [] = Unit {0}
AreBits [] bits (f ∷ flags) = ⊥
AreBits (l ∷ labels) bits [] = ⊥
AreBits (l ∷ labels) bits (true ∷ flags) = (bits % 2 ≡ 1) × AreBits labels (bits / 2) flags
AreBits (l ∷ labels) bits (false ∷ flags) = (bits % 2 ≡ 0) × AreBits labels (bits / 2) flags

mutual
  pub data Stands (memory : List ℕ) : ℕ → ValType → Value → Type 0 where
    -- A truth value is a byte, and false where it is 0.
    false_stands : (place : ℕ) → number w8 place memory ≡ 0 → Stands memory place leaves.Bool (plain.Bool false)
    true_stands : (place : ℕ) → number w8 place memory ≢ 0 → Stands memory place leaves.Bool (plain.Bool true)
    -- Integers are their bytes, the lowest first.
    s8_stands : (place : ℕ) → Stands memory place leaves.S8 (plain.S8 (cast_signed w8 (number w8 place memory)))
    u8_stands : (place : ℕ) → Stands memory place leaves.U8 (plain.U8 (number w8 place memory))
    s16_stands : (place : ℕ) → Stands memory place leaves.S16 (plain.S16 (cast_signed w16 (number w16 place memory)))
    u16_stands : (place : ℕ) → Stands memory place leaves.U16 (plain.U16 (number w16 place memory))
    s32_stands : (place : ℕ) → Stands memory place leaves.S32 (plain.S32 (cast_signed w32 (number w32 place memory)))
    u32_stands : (place : ℕ) → Stands memory place leaves.U32 (plain.U32 (number w32 place memory))
    s64_stands : (place : ℕ) → Stands memory place leaves.S64 (plain.S64 (cast_signed w64 (number w64 place memory)))
    u64_stands : (place : ℕ) → Stands memory place leaves.U64 (plain.U64 (number w64 place memory))
    -- A character is its number, a Unicode scalar value.
    char_stands : (place : ℕ) → IsTrue (is_scalar (number w32 place memory)) → Stands memory place leaves.Char (plain.Char (number w32 place memory))
    -- A handle is its index.
    own_stands : (place resource : ℕ) → Stands memory place (leaves.Own resource) (plain.Own (record { resource = resource; rep = number w32 place memory }))
    borrow_stands : (place resource : ℕ) → Stands memory place (leaves.Borrow resource) (plain.Borrow (record { resource = resource; rep = number w32 place memory }))
    -- So is the end of a stream or a future.
    stream_stands : (place : ℕ) (element : Option ValType) → Stands memory place (types.Stream element) (plain.Stream (number w32 place memory))
    future_stands : (place : ℕ) (element : Option ValType) → Stands memory place (types.Future element) (plain.Future (number w32 place memory))
    -- A text is the place and the number of its bytes, which are inside and UTF-8.
    string_stands : (place at count : ℕ) → number w32 place memory ≡ at → number w32 (place + 4) memory ≡ count → at + count ≤ length memory
        → IsUtf8 (bytes_at at count memory) → Stands memory place leaves.String (plain.String (bytes_at at count memory))
    -- A list is the place and the number of its elements, which are aligned and inside, one after the other.
    list_stands : (place at : ℕ) (element : ValType) (all : List Value) → number w32 place memory ≡ at → number w32 (place + 4) memory ≡ length all
        → at % (laid element).align ≡ 0 → at + length all * (laid element).size ≤ length memory → AreElements memory at element all
        → Stands memory place (types.List element) (values.List all)
    -- A record is its fields, each at the next multiple of its alignment; a tuple is the record of its places.
    record_stands : (place : ℕ) (fields : List Field) (all : List Value) → AreFields memory place 0 (map (λ (f : Field). f.val_type) fields) all
        → Stands memory place (types.Record fields) (values.Record all)
    tuple_stands : (place : ℕ) (parts : List ValType) (all : List Value) → AreFields memory place 0 parts all
        → Stands memory place (types.Tuple parts) (values.Record all)
    -- Flags are the bits of a number of 1, 2 or 4 bytes. Bits above are ignored.
    flags_stand : (place : ℕ) (labels : List (List ℕ)) (flags : List Bool) → AreBits labels (number (width_of (bits_size (length labels))) place memory) flags
        → Stands memory place (leaves.Flags labels) (plain.Flags flags)
    -- A variant is the number of its case, and behind it the payload, where the case has one. An enum, an option and a result are
    -- variants.
    case_stands : (place n : ℕ) (cases : List Case) (c : Case) (payload : Option Value) → tag (length cases) place memory ≡ n → slice_get cases n ≡ Some c
        → IsPayload memory (place + payload_place (types.Variant cases)) c.payload payload
        → Stands memory place (types.Variant cases) (values.Variant n payload)
    enum_stands : (place n : ℕ) (labels : List (List ℕ)) → tag (length labels) place memory ≡ n → n < length labels
        → Stands memory place (leaves.Enum labels) (values.Variant n None)
    none_stands : (place : ℕ) (part : ValType) → tag 2 place memory ≡ 0 → Stands memory place (types.Option part) (values.Variant 0 None)
    some_stands : (place : ℕ) (part : ValType) (payload : Option Value) → tag 2 place memory ≡ 1
        → IsPayload memory (place + payload_place (types.Option part)) (Some part) payload
        → Stands memory place (types.Option part) (values.Variant 1 payload)
    ok_stands : (place : ℕ) (ok err : Option ValType) (payload : Option Value) → tag 2 place memory ≡ 0
        → IsPayload memory (place + payload_place (types.Result ok err)) ok payload
        → Stands memory place (types.Result ok err) (values.Variant 0 payload)
    err_stands : (place : ℕ) (ok err : Option ValType) (payload : Option Value) → tag 2 place memory ≡ 1
        → IsPayload memory (place + payload_place (types.Result ok err)) err payload
        → Stands memory place (types.Result ok err) (values.Variant 1 payload)

  -- values of one type, one after the other
  pub data AreElements (memory : List ℕ) : ℕ → ValType → List Value → Type 0 where
    no_elements : (at : ℕ) (element : ValType) → AreElements memory at element []
    more_elements : (at : ℕ) (element : ValType) (v : Value) (all : List Value) → Stands memory at element v
        → AreElements memory (at + (laid element).size) element all → AreElements memory at element (v ∷ all)

  -- values of these types, each at the next multiple of its alignment behind so many bytes of the record
  pub data AreFields (memory : List ℕ) : ℕ → ℕ → List ValType → List Value → Type 0 where
    no_fields : (place end : ℕ) → AreFields memory place end [] []
    more_fields : (place end : ℕ) (t : ValType) (types : List ValType) (v : Value) (all : List Value)
        → Stands memory (place + aligned end (laid t).align) t v → AreFields memory place (aligned end (laid t).align + (laid t).size) types all
        → AreFields memory place end (t ∷ types) (v ∷ all)

  -- a payload exactly where there is a type for it
  pub data IsPayload (memory : List ℕ) : ℕ → Option ValType → Option Value → Type 0 where
    no_payload : (place : ℕ) → IsPayload memory place None None
    payload_stands : (place : ℕ) (t : ValType) (v : Value) → Stands memory place t v → IsPayload memory place (Some t) (Some v)

-- How much a value counts: 1, and for each part as much as the part; for a text 1 for each byte.
abbrev pub count_payload : Option ℕ → ℕ
count_payload (Some n) = n
count_payload None = 0

abbrev pub total : List ℕ → ℕ
total [] = 0
total (n ∷ ns) = n + total ns

abbrev pub count_step : Value-F ℕ → ℕ
count_step (Value-F.String s) = suc (length s)
count_step (Value-F.List all) = suc (total all)
count_step (Value-F.Record all) = suc (total all)
count_step (Value-F.Variant n payload) = suc (count_payload payload)
count_step other = 1

abbrev pub counts : Value → ℕ
counts = fold-Value ℕ count_step
