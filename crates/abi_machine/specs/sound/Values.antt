-- Which values are of a type (Component Model, Explainer.md, "Type Definitions"), with what the types of the program say of them: numbers are in their
-- ranges, texts are UTF-8, of flags none behind the 32nd is set, and a handle has a representation below 2^32. A stream or a future has any number.
use Rattle.std.specs.Prelude.{◌≡◌, ◌<◌, ◌^◌, ℕ, ℤ, Bool, IsTrue, List, [], ◌∷◌, map, length, Option, Some, None}
use Rattle.std.specs.List.{slice_get}
use Rattle.std.specs.Int.{w8, w16, w32, w64}
use Rattle.std.specs.Prelude.{FitsSigned}
use Rattle.std.specs.Str.{IsUtf8}
use Rattle.syntax_trees.specs.declared.types.ValType.{ValType}
use Rattle.syntax_trees.specs.declared.types.Field.{Field}
use Rattle.syntax_trees.specs.declared.types.Case.{Case}
use Rattle.syntax_trees.specs.declared.types.ValType.TheViews as types
use Rattle.syntax_trees.specs.declared.types.ValType.TheVariants as leaves
use Rattle.syntax_trees.specs.declared.value.Value.{Value}
use Rattle.syntax_trees.specs.declared.value.Value.TheViews as values
use Rattle.syntax_trees.specs.declared.value.Value.TheVariants as plain
use Rattle.value_lower.specs.Lowering.{bits_of}
use Rattle.value_lift.specs.Bytes.{is_scalar}

mutual
  pub data IsOf : ValType → Value → Type 0 where
    bool_is : (b : Bool) → IsOf leaves.Bool (plain.Bool b)
    s8_is : (n : ℤ) → FitsSigned w8 n → IsOf leaves.S8 (plain.S8 n)
    u8_is : (n : ℕ) → n < 2 ^ 8 → IsOf leaves.U8 (plain.U8 n)
    s16_is : (n : ℤ) → FitsSigned w16 n → IsOf leaves.S16 (plain.S16 n)
    u16_is : (n : ℕ) → n < 2 ^ 16 → IsOf leaves.U16 (plain.U16 n)
    s32_is : (n : ℤ) → FitsSigned w32 n → IsOf leaves.S32 (plain.S32 n)
    u32_is : (n : ℕ) → n < 2 ^ 32 → IsOf leaves.U32 (plain.U32 n)
    s64_is : (n : ℤ) → FitsSigned w64 n → IsOf leaves.S64 (plain.S64 n)
    u64_is : (n : ℕ) → n < 2 ^ 64 → IsOf leaves.U64 (plain.U64 n)
    char_is : (c : ℕ) → IsTrue (is_scalar c) → IsOf leaves.Char (plain.Char c)
    own_is : (resource n : ℕ) → n < 2 ^ 32 → IsOf (leaves.Own resource) (plain.Own (record { resource = resource; rep = n }))
    borrow_is : (resource n : ℕ) → n < 2 ^ 32 → IsOf (leaves.Borrow resource) (plain.Borrow (record { resource = resource; rep = n }))
    stream_is : (element : Option ValType) (n : ℕ) → IsOf (types.Stream element) (plain.Stream n)
    future_is : (element : Option ValType) (n : ℕ) → IsOf (types.Future element) (plain.Future n)
    string_is : (text : List ℕ) → IsUtf8 text → IsOf leaves.String (plain.String text)
    list_is : (element : ValType) (all : List Value) → AllAre element all → IsOf (types.List element) (values.List all)
    record_is : (fields : List Field) (all : List Value) → EachIs (map (λ (f : Field). f.val_type) fields) all → IsOf (types.Record fields) (values.Record all)
    tuple_is : (parts : List ValType) (all : List Value) → EachIs parts all → IsOf (types.Tuple parts) (values.Record all)
    flags_are : (labels : List (List ℕ)) (flags : List Bool) → length flags ≡ length labels → bits_of flags < 2 ^ 32
        → IsOf (leaves.Flags labels) (plain.Flags flags)
    case_is : (n : ℕ) (cases : List Case) (c : Case) (payload : Option Value) → n < 2 ^ 32 → slice_get cases n ≡ Some c
        → PayloadIs c.payload payload → IsOf (types.Variant cases) (values.Variant n payload)
    enum_is : (n : ℕ) (labels : List (List ℕ)) → n < 2 ^ 32 → n < length labels → IsOf (leaves.Enum labels) (values.Variant n None)
    none_is : (part : ValType) → IsOf (types.Option part) (values.Variant 0 None)
    some_is : (part : ValType) (payload : Option Value) → PayloadIs (Some part) payload → IsOf (types.Option part) (values.Variant 1 payload)
    ok_is : (ok err : Option ValType) (payload : Option Value) → PayloadIs ok payload → IsOf (types.Result ok err) (values.Variant 0 payload)
    err_is : (ok err : Option ValType) (payload : Option Value) → PayloadIs err payload → IsOf (types.Result ok err) (values.Variant 1 payload)

  -- values of one type
  pub data AllAre : ValType → List Value → Type 0 where
    none_are : (element : ValType) → AllAre element []
    more_are : (element : ValType) (v : Value) (all : List Value) → IsOf element v → AllAre element all → AllAre element (v ∷ all)

  -- as many values as types, each of its own
  pub data EachIs : List ValType → List Value → Type 0 where
    no_types : EachIs [] []
    more_types : (t : ValType) (types : List ValType) (v : Value) (all : List Value) → IsOf t v → EachIs types all → EachIs (t ∷ types) (v ∷ all)

  -- a payload exactly where there is a type for it
  pub data PayloadIs : Option ValType → Option Value → Type 0 where
    no_payload_is : PayloadIs None None
    payload_is : (t : ValType) (v : Value) → IsOf t v → PayloadIs (Some t) (Some v)
