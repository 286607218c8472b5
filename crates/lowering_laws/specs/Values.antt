-- Which values are of a type (Component Model, Explainer.md, "Type Definitions"), with what the types of the program say of them:
-- numbers are in their ranges, texts are UTF-8, and of flags none behind the 32nd is set: the standard has no more. A handle and the end
-- of a stream or a future have a number, an index or what it names.
use Rattle.std.specs.Prelude.{◌≡◌, ◌<◌, ◌^◌, ℕ, ℤ, Bool, IsTrue, List, [], ◌∷◌, map, length, Option, Some, None}
use Rattle.std.specs.List.{slice_get, AllByRecursion}
use Rattle.std.specs.Int.{w8, w16, w32, w64}
use Rattle.std.specs.Prelude.{FitsSigned}
use Rattle.std.specs.Str.{IsUtf8}
use Rattle.syntax_trees.specs.declared.types.ValType.{ValType}
use Rattle.syntax_trees.specs.declared.types.Field.{Field}
use Rattle.syntax_trees.specs.declared.types.Case.{Case}
use Rattle.syntax_trees.specs.declared.types.ValType.TheViews as types
use Rattle.syntax_trees.specs.declared.types.ValType.TheVariants as leaves
use Rattle.syntax_trees.specs.declared.value.Handle.{Handle}
use Rattle.syntax_trees.specs.declared.value.Value.{Value}
use Rattle.syntax_trees.specs.declared.value.Value.TheViews as values
use Rattle.syntax_trees.specs.declared.value.Value.TheVariants as plain
use Rattle.value_lower.specs.Lowering.{bits_of}
use Rattle.value_lift.specs.Bytes.{is_scalar}

-- bytes as numbers
abbrev pub AreBytes : List ℕ → Type 0
AreBytes bytes = AllByRecursion (λ byte. byte < 256) bytes

-- What the types of the program say of a value, without its type.
mutual
  pub data InRange : Value → Type 0 where
    bool_in : (b : Bool) → InRange (plain.Bool b)
    s8_in : (n : ℤ) → FitsSigned w8 n → InRange (plain.S8 n)
    u8_in : (n : ℕ) → n < 2 ^ 8 → InRange (plain.U8 n)
    s16_in : (n : ℤ) → FitsSigned w16 n → InRange (plain.S16 n)
    u16_in : (n : ℕ) → n < 2 ^ 16 → InRange (plain.U16 n)
    s32_in : (n : ℤ) → FitsSigned w32 n → InRange (plain.S32 n)
    u32_in : (n : ℕ) → n < 2 ^ 32 → InRange (plain.U32 n)
    s64_in : (n : ℤ) → FitsSigned w64 n → InRange (plain.S64 n)
    u64_in : (n : ℕ) → n < 2 ^ 64 → InRange (plain.U64 n)
    char_in : (c : ℕ) → IsTrue (is_scalar c) → InRange (plain.Char c)
    own_in : (handle : Handle) → handle.rep < 2 ^ 32 → InRange (plain.Own handle)
    borrow_in : (handle : Handle) → handle.rep < 2 ^ 32 → InRange (plain.Borrow handle)
    stream_in : (n : ℕ) → n < 2 ^ 32 → InRange (plain.Stream n)
    future_in : (n : ℕ) → n < 2 ^ 32 → InRange (plain.Future n)
    string_in : (text : List ℕ) → IsUtf8 text → InRange (plain.String text)
    list_in : (all : List Value) → AllInRange all → InRange (values.List all)
    record_in : (all : List Value) → AllInRange all → InRange (values.Record all)
    flags_in : (flags : List Bool) → bits_of flags < 2 ^ 32 → InRange (plain.Flags flags)
    case_in : (n : ℕ) → n < 2 ^ 32 → InRange (values.Variant n None)
    payload_in : (n : ℕ) (v : Value) → n < 2 ^ 32 → InRange v → InRange (values.Variant n (Some v))

  pub data AllInRange : List Value → Type 0 where
    none_in : AllInRange []
    more_in : (v : Value) (all : List Value) → InRange v → AllInRange all → AllInRange (v ∷ all)

-- Values of a type.
mutual
  pub data IsOf : ValType → Value → Type 0 where
    bool_is : (b : Bool) → IsOf leaves.Bool (plain.Bool b)
    s8_is : (n : ℤ) → FitsSigned w8 n → IsOf leaves.S8 (plain.S8 n)
    u8_is : (n : ℕ) → n < 2 ^ 8 → IsOf leaves.U8 (plain.U8 n)
    s16_is : (n : ℤ) → FitsSigned w16 n → IsOf leaves.S16 (plain.S16 n)
    u16_is : (n : ℕ) → n < 2 ^ 16 → IsOf leaves.U16 (plain.U16 n)
    s32_is : (n : ℤ) → FitsSigned w32 n → IsOf leaves.S32 (plain.S32 n)
    u32_is : (n : ℕ) → n < 2 ^ 32 → IsOf leaves.U32 (plain.U32 n)
    s64_is : (n : ℤ) → FitsSigned w64 n → IsOf leaves.S64 (plain.S64 n)
    u64_is : (n : ℕ) → n < 2 ^ 64 → IsOf leaves.U64 (plain.U64 n)
    char_is : (c : ℕ) → IsTrue (is_scalar c) → IsOf leaves.Char (plain.Char c)
    own_is : (resource n : ℕ) → n < 2 ^ 32 → IsOf (leaves.Own resource) (plain.Own (record { resource = resource; rep = n }))
    borrow_is : (resource n : ℕ) → n < 2 ^ 32 → IsOf (leaves.Borrow resource) (plain.Borrow (record { resource = resource; rep = n }))
    stream_is : (element : Option ValType) (n : ℕ) → n < 2 ^ 32 → IsOf (types.Stream element) (plain.Stream n)
    future_is : (element : Option ValType) (n : ℕ) → n < 2 ^ 32 → IsOf (types.Future element) (plain.Future n)
    string_is : (text : List ℕ) → IsUtf8 text → IsOf leaves.String (plain.String text)
    list_is : (element : ValType) (all : List Value) → AllAre element all → IsOf (types.List element) (values.List all)
    record_is : (fields : List Field) (all : List Value) → EachIs (map (λ (f : Field). f.val_type) fields) all → IsOf (types.Record fields) (values.Record all)
    tuple_is : (parts : List ValType) (all : List Value) → EachIs parts all → IsOf (types.Tuple parts) (values.Record all)
    flags_are : (labels : List (List ℕ)) (flags : List Bool) → length flags ≡ length labels → bits_of flags < 2 ^ 32
        → IsOf (leaves.Flags labels) (plain.Flags flags)
    case_is : (n : ℕ) (cases : List Case) (c : Case) (payload : Option Value) → n < 2 ^ 32 → slice_get cases n ≡ Some c
        → PayloadIs c.payload payload → IsOf (types.Variant cases) (values.Variant n payload)
    enum_is : (n : ℕ) (labels : List (List ℕ)) → n < 2 ^ 32 → n < length labels → IsOf (leaves.Enum labels) (values.Variant n None)
    none_is : (part : ValType) → IsOf (types.Option part) (values.Variant 0 None)
    some_is : (part : ValType) (payload : Option Value) → PayloadIs (Some part) payload → IsOf (types.Option part) (values.Variant 1 payload)
    ok_is : (ok err : Option ValType) (payload : Option Value) → PayloadIs ok payload → IsOf (types.Result ok err) (values.Variant 0 payload)
    err_is : (ok err : Option ValType) (payload : Option Value) → PayloadIs err payload → IsOf (types.Result ok err) (values.Variant 1 payload)

  -- values of one type
  pub data AllAre : ValType → List Value → Type 0 where
    none_are : (element : ValType) → AllAre element []
    more_are : (element : ValType) (v : Value) (all : List Value) → IsOf element v → AllAre element all → AllAre element (v ∷ all)

  -- as many values as types, each of its own
  pub data EachIs : List ValType → List Value → Type 0 where
    no_types : EachIs [] []
    more_types : (t : ValType) (types : List ValType) (v : Value) (all : List Value) → IsOf t v → EachIs types all → EachIs (t ∷ types) (v ∷ all)

  -- a payload exactly where there is a type for it
  pub data PayloadIs : Option ValType → Option Value → Type 0 where
    no_payload_is : PayloadIs None None
    payload_is : (t : ValType) (v : Value) → IsOf t v → PayloadIs (Some t) (Some v)
