-- Why no value of a type stands at a place of a memory, and where (Component Model, CanonicalABI.md, "Loading"), by cases on the type and
-- on what is wrong. The reason is that of the first part, from left to right, that stands for nothing, and the spot is the place of that
-- part's first byte. The parts before it stand, as `specs/Standing` says, and are counted. A value is counted when it is reached; the
-- bytes of a text are counted where all are inside, before they are tested. A handle and an end that are told by their index do not fail
-- once they are counted. `specs/Lifting` computes what this says; the laws in `specs/Laws` say that both are the same.
use Rattle.std.specs.Prelude.{◌≡◌, ◌≢◌, ◌≤◌, ◌<◌, ◌+◌, ◌*◌, ◌%◌, ℕ, suc, IsFalse, List, ◌∷◌, map, length, Option, Some}
use Rattle.std.specs.List.{slice_get}
use Rattle.std.specs.Int.{w32}
use Rattle.std.specs.Str.{IsUtf8}
use Rattle.syntax_trees.specs.declared.types.ValType.{ValType}
use Rattle.syntax_trees.specs.declared.types.Field.{Field}
use Rattle.syntax_trees.specs.declared.types.Case.{Case}
use Rattle.syntax_trees.specs.declared.types.ValType.TheViews as types
use Rattle.syntax_trees.specs.declared.types.ValType.TheVariants as leaves
use Rattle.syntax_trees.specs.declared.value.Value.{Value}
use Rattle.laid_types.specs.Layout.{laid, aligned}
use Rattle.laid_types.specs.Parts.{payload_place}
use Rattle.value_lift.specs.declared.counting.LiftOf.{LiftOf}
use Rattle.value_lift.specs.declared.trap.LiftWhy.{LiftWhy}
use Rattle.value_lift.specs.declared.trap.LiftWhy.TheVariants.{Misaligned, Bounds, BadChar, BadUtf8, BadCase, TooLarge}
use Rattle.value_lift.specs.Bytes.{number, bytes_at, is_scalar}
use Rattle.value_lift.specs.Lifting.{most}
use Rattle.value_lift.specs.Standing.{Stands, tag, counts}

mutual
  -- A value of a type at a place fails, while so much may be counted still, for a reason at a spot.
  pub data Fails (memory : List ℕ) : ℕ → ValType → ℕ → LiftWhy → ℕ → Type 0 where
    -- Nothing may be counted any more.
    too_large : (place : ℕ) (t : ValType) → Fails memory place t 0 TooLarge place
    -- The value is counted, and then fails.
    counted_fails : (place : ℕ) (t : ValType) (left : ℕ) (why : LiftWhy) (spot : ℕ) → CountedFails memory place t left why spot
        → Fails memory place t (suc left) why spot

  -- the same of a value that is counted already
  pub data CountedFails (memory : List ℕ) : ℕ → ValType → ℕ → LiftWhy → ℕ → Type 0 where
    -- The number of a character is no Unicode scalar value.
    bad_char : (place left : ℕ) → IsFalse (is_scalar (number w32 place memory)) → CountedFails memory place leaves.Char left BadChar place
    -- The bytes of a text are not all inside; or they are, and are more than may be counted; or they are not UTF-8.
    string_outside : (place left at count : ℕ) → number w32 place memory ≡ at → number w32 (place + 4) memory ≡ count → length memory < at + count
        → CountedFails memory place leaves.String left Bounds place
    string_too_large : (place left at count : ℕ) → number w32 place memory ≡ at → number w32 (place + 4) memory ≡ count → at + count ≤ length memory
        → left < count → CountedFails memory place leaves.String left TooLarge place
    string_not_utf8 : (place left at count : ℕ) → number w32 place memory ≡ at → number w32 (place + 4) memory ≡ count → at + count ≤ length memory
        → count ≤ left → (IsUtf8 (bytes_at at count memory) → ⊥) → CountedFails memory place leaves.String left BadUtf8 place
    -- The elements of a list are not aligned; or they are, and are not all inside; or the first that fails does.
    list_misaligned : (place left at : ℕ) (element : ValType) → number w32 place memory ≡ at → at % (laid element).align ≢ 0
        → CountedFails memory place (types.List element) left Misaligned place
    list_outside : (place left at count : ℕ) (element : ValType) → number w32 place memory ≡ at → number w32 (place + 4) memory ≡ count
        → at % (laid element).align ≡ 0 → length memory < at + count * (laid element).size → CountedFails memory place (types.List element) left Bounds place
    list_fails : (place left at count : ℕ) (element : ValType) (why : LiftWhy) (spot : ℕ) → number w32 place memory ≡ at
        → number w32 (place + 4) memory ≡ count → at % (laid element).align ≡ 0 → at + count * (laid element).size ≤ length memory
        → ElementFails memory at element count left why spot → CountedFails memory place (types.List element) left why spot
    -- Of a record the first field fails that does; a tuple is the record of its places.
    record_fails : (place left : ℕ) (fields : List Field) (why : LiftWhy) (spot : ℕ)
        → FieldFails memory place 0 (map (λ (f : Field). f.val_type) fields) left why spot → CountedFails memory place (types.Record fields) left why spot
    tuple_fails : (place left : ℕ) (parts : List ValType) (why : LiftWhy) (spot : ℕ) → FieldFails memory place 0 parts left why spot
        → CountedFails memory place (types.Tuple parts) left why spot
    -- No case of a variant has the number. An enum, an option and a result are variants.
    bad_case : (place left : ℕ) (cases : List Case) → length cases ≤ tag (length cases) place memory
        → CountedFails memory place (types.Variant cases) left BadCase place
    bad_enum : (place left : ℕ) (labels : List (List ℕ)) → length labels ≤ tag (length labels) place memory
        → CountedFails memory place (leaves.Enum labels) left BadCase place
    bad_option : (place left : ℕ) (part : ValType) → 2 ≤ tag 2 place memory → CountedFails memory place (types.Option part) left BadCase place
    bad_result : (place left : ℕ) (ok err : Option ValType) → 2 ≤ tag 2 place memory → CountedFails memory place (types.Result ok err) left BadCase place
    -- The payload of the case fails.
    case_fails : (place left n : ℕ) (cases : List Case) (c : Case) (t : ValType) (why : LiftWhy) (spot : ℕ) → tag (length cases) place memory ≡ n
        → slice_get cases n ≡ Some c → c.payload ≡ Some t → Fails memory (place + payload_place (types.Variant cases)) t left why spot
        → CountedFails memory place (types.Variant cases) left why spot
    some_fails : (place left : ℕ) (part : ValType) (why : LiftWhy) (spot : ℕ) → tag 2 place memory ≡ 1
        → Fails memory (place + payload_place (types.Option part)) part left why spot → CountedFails memory place (types.Option part) left why spot
    ok_fails : (place left : ℕ) (t : ValType) (err : Option ValType) (why : LiftWhy) (spot : ℕ) → tag 2 place memory ≡ 0
        → Fails memory (place + payload_place (types.Result (Some t) err)) t left why spot → CountedFails memory place (types.Result (Some t) err) left why spot
    err_fails : (place left : ℕ) (ok : Option ValType) (t : ValType) (why : LiftWhy) (spot : ℕ) → tag 2 place memory ≡ 1
        → Fails memory (place + payload_place (types.Result ok (Some t))) t left why spot → CountedFails memory place (types.Result ok (Some t)) left why spot

  -- The first that fails of so many values of one type, one after the other. It is this one; or this one stands, and the first that fails
  -- is one behind it, for which so much less may be counted as this one counts.
  pub data ElementFails (memory : List ℕ) : ℕ → ValType → ℕ → ℕ → LiftWhy → ℕ → Type 0 where
    this_element : (at : ℕ) (element : ValType) (count left : ℕ) (why : LiftWhy) (spot : ℕ) → Fails memory at element left why spot
        → ElementFails memory at element (suc count) left why spot
    later_element : (at : ℕ) (element : ValType) (count left : ℕ) (v : Value) (why : LiftWhy) (spot : ℕ) → Stands memory at element v
        → ElementFails memory (at + (laid element).size) element count left why spot → ElementFails memory at element (suc count) (counts v + left) why spot

  -- The same of values of these types, each at the next multiple of its alignment behind so many bytes of the record.
  pub data FieldFails (memory : List ℕ) : ℕ → ℕ → List ValType → ℕ → LiftWhy → ℕ → Type 0 where
    this_field : (place end : ℕ) (t : ValType) (types : List ValType) (left : ℕ) (why : LiftWhy) (spot : ℕ)
        → Fails memory (place + aligned end (laid t).align) t left why spot → FieldFails memory place end (t ∷ types) left why spot
    later_field : (place end : ℕ) (t : ValType) (types : List ValType) (left : ℕ) (v : Value) (why : LiftWhy) (spot : ℕ)
        → Stands memory (place + aligned end (laid t).align) t v → FieldFails memory place (aligned end (laid t).align + (laid t).size) types left why spot
        → FieldFails memory place end (t ∷ types) (counts v + left) why spot

-- What is loaded from a place fails: the place is no multiple of the alignment; or it is, and not all bytes are inside; or the value
-- fails.
pub data LoadFails (what : LiftOf) (type : ValType) (memory : List ℕ) (place : ℕ) : LiftWhy → ℕ → Type 0 where
  place_misaligned : place % (laid type).align ≢ 0 → LoadFails what type memory place Misaligned place
  place_outside : place % (laid type).align ≡ 0 → length memory < place + (laid type).size → LoadFails what type memory place Bounds place
  value_fails : (why : LiftWhy) (spot : ℕ) → place % (laid type).align ≡ 0 → place + (laid type).size ≤ length memory
      → Fails memory place type (most what) why spot → LoadFails what type memory place why spot

-- The same of so many values, one after the other. Of none there is nothing that fails, whatever the place.
pub data LoadListFails (type : ValType) (memory : List ℕ) (place count : ℕ) : LiftWhy → ℕ → Type 0 where
  all_misaligned : 0 < count → place % (laid type).align ≢ 0 → LoadListFails type memory place count Misaligned place
  all_outside : 0 < count → place % (laid type).align ≡ 0 → length memory < place + count * (laid type).size → LoadListFails type memory place count Bounds place
  one_fails : (why : LiftWhy) (spot : ℕ) → place % (laid type).align ≡ 0 → place + count * (laid type).size ≤ length memory
      → ElementFails memory place type count 134217728 why spot → LoadListFails type memory place count why spot
