-- Why core values stand for no value of a type, over a memory, and where (Component Model, CanonicalABI.md, "Flat Lifting"), by cases on
-- the type and on what is wrong, as `specs/Failing` says it of a memory. The spot of a part that stands in core values is the number of
-- its first one; what stands behind a place in memory has its spots in memory. A handle and an end that are told by their index do
-- not fail once they are counted. `specs/Lifting` computes what this says; the laws in `specs/Laws` say that both are the same.
use Rattle.std.specs.Prelude.{◌≡◌, ◌≢◌, ◌≤◌, ◌<◌, ◌+◌, ◌*◌, ◌%◌, ℕ, suc, IsFalse, List, [], ◌∷◌, ◌++◌, map, length, Option, Some}
use Rattle.std.specs.List.{slice_get}
use Rattle.std.specs.Str.{IsUtf8}
use Rattle.syntax_trees.specs.declared.types.ValType.{ValType}
use Rattle.syntax_trees.specs.declared.types.Field.{Field}
use Rattle.syntax_trees.specs.declared.types.Case.{Case}
use Rattle.syntax_trees.specs.declared.types.ValType.TheViews as types
use Rattle.syntax_trees.specs.declared.types.ValType.TheVariants as leaves
use Rattle.syntax_trees.specs.declared.value.Value.{Value}
use Rattle.laid_types.specs.Layout.{laid}
use Rattle.syntax_trees.specs.Flat.{flat}
use Rattle.value_lift.specs.declared.counting.LiftOf.{LiftOf}
use Rattle.value_lift.specs.declared.trap.LiftWhy.{LiftWhy}
use Rattle.value_lift.specs.declared.trap.LiftWhy.TheVariants.{Misaligned, Bounds, BadChar, BadUtf8, BadCase, TooLarge}
use Rattle.value_lift.specs.Bytes.{bytes_at, is_scalar}
use Rattle.value_lift.specs.Lifting.{most}
use Rattle.value_lift.specs.Standing.{counts}
use Rattle.value_lift.specs.WordStanding.{wrapped, FlatOf}
use Rattle.value_lift.specs.Failing.{ElementFails}

mutual
  -- A value of a type fails for which these core values are to stand, the first of which has this number, while so much may be counted
  -- still, for a reason at a spot.
  pub data FlatFails (memory : List ℕ) : ValType → List ℕ → ℕ → ℕ → LiftWhy → ℕ → Type 0 where
    -- Nothing may be counted any more.
    flat_too_large : (t : ValType) (words : List ℕ) (at : ℕ) → FlatFails memory t words at 0 TooLarge at
    -- The value is counted, and then fails.
    flat_counted_fails : (t : ValType) (words : List ℕ) (at left : ℕ) (why : LiftWhy) (spot : ℕ) → CountedFlatFails memory t words at left why spot
        → FlatFails memory t words at (suc left) why spot

  -- the same of a value that is counted already
  pub data CountedFlatFails (memory : List ℕ) : ValType → List ℕ → ℕ → ℕ → LiftWhy → ℕ → Type 0 where
    -- The number of a character is no Unicode scalar value.
    flat_bad_char : (w at left : ℕ) → IsFalse (is_scalar w) → CountedFlatFails memory leaves.Char (w ∷ []) at left BadChar at
    -- The bytes of a text are not all inside; or they are, and are more than may be counted; or they are not UTF-8.
    flat_string_outside : (from count at left : ℕ) → length memory < from + count → CountedFlatFails memory leaves.String (from ∷ count ∷ []) at left Bounds at
    flat_string_too_large : (from count at left : ℕ) → from + count ≤ length memory → left < count
        → CountedFlatFails memory leaves.String (from ∷ count ∷ []) at left TooLarge at
    flat_string_not_utf8 : (from count at left : ℕ) → from + count ≤ length memory → count ≤ left → (IsUtf8 (bytes_at from count memory) → ⊥)
        → CountedFlatFails memory leaves.String (from ∷ count ∷ []) at left BadUtf8 at
    -- The elements of a list are not aligned; or they are, and are not all inside; or the first that fails does.
    flat_list_misaligned : (from count at left : ℕ) (element : ValType) → from % (laid element).align ≢ 0
        → CountedFlatFails memory (types.List element) (from ∷ count ∷ []) at left Misaligned at
    flat_list_outside : (from count at left : ℕ) (element : ValType) → from % (laid element).align ≡ 0 → length memory < from + count * (laid element).size
        → CountedFlatFails memory (types.List element) (from ∷ count ∷ []) at left Bounds at
    flat_list_fails : (from count at left : ℕ) (element : ValType) (why : LiftWhy) (spot : ℕ) → from % (laid element).align ≡ 0
        → from + count * (laid element).size ≤ length memory → ElementFails memory from element count left why spot
        → CountedFlatFails memory (types.List element) (from ∷ count ∷ []) at left why spot
    -- Of a record the first field fails that does; a tuple is the record of its places.
    flat_record_fails : (fields : List Field) (words : List ℕ) (at left : ℕ) (why : LiftWhy) (spot : ℕ)
        → FlatFieldFails memory (map (λ (f : Field). f.val_type) fields) words at left why spot → CountedFlatFails memory (types.Record fields) words at left why spot
    flat_tuple_fails : (parts : List ValType) (words : List ℕ) (at left : ℕ) (why : LiftWhy) (spot : ℕ) → FlatFieldFails memory parts words at left why spot
        → CountedFlatFails memory (types.Tuple parts) words at left why spot
    -- No case of a variant has the number. An enum, an option and a result are variants.
    flat_bad_case : (cases : List Case) (n : ℕ) (words : List ℕ) (at left : ℕ) → length cases ≤ n
        → CountedFlatFails memory (types.Variant cases) (n ∷ words) at left BadCase at
    flat_bad_enum : (labels : List (List ℕ)) (n at left : ℕ) → length labels ≤ n → CountedFlatFails memory (leaves.Enum labels) (n ∷ []) at left BadCase at
    flat_bad_option : (part : ValType) (n : ℕ) (words : List ℕ) (at left : ℕ) → 2 ≤ n → CountedFlatFails memory (types.Option part) (n ∷ words) at left BadCase at
    flat_bad_result : (ok err : Option ValType) (n : ℕ) (words : List ℕ) (at left : ℕ) → 2 ≤ n
        → CountedFlatFails memory (types.Result ok err) (n ∷ words) at left BadCase at
    -- The payload of the case fails. It stands in the first of the core values behind the number, each wrapped where it is an i64 for an
    -- i32.
    flat_case_fails : (n : ℕ) (cases : List Case) (c : Case) (t : ValType) (words : List ℕ) (at left : ℕ) (why : LiftWhy) (spot : ℕ)
        → slice_get cases n ≡ Some c → c.payload ≡ Some t → FlatFails memory t (wrapped (flat t) words) (at + 1) left why spot
        → CountedFlatFails memory (types.Variant cases) (n ∷ words) at left why spot
    flat_some_fails : (part : ValType) (words : List ℕ) (at left : ℕ) (why : LiftWhy) (spot : ℕ) → FlatFails memory part (wrapped (flat part) words) (at + 1) left why spot
        → CountedFlatFails memory (types.Option part) (1 ∷ words) at left why spot
    flat_ok_fails : (t : ValType) (err : Option ValType) (words : List ℕ) (at left : ℕ) (why : LiftWhy) (spot : ℕ)
        → FlatFails memory t (wrapped (flat t) words) (at + 1) left why spot → CountedFlatFails memory (types.Result (Some t) err) (0 ∷ words) at left why spot
    flat_err_fails : (ok : Option ValType) (t : ValType) (words : List ℕ) (at left : ℕ) (why : LiftWhy) (spot : ℕ)
        → FlatFails memory t (wrapped (flat t) words) (at + 1) left why spot → CountedFlatFails memory (types.Result ok (Some t)) (1 ∷ words) at left why spot

  -- The first that fails of values of these types, one after the other. It is this one; or its core values stand for this one, and the
  -- first that fails is one behind it, for which so much less may be counted as this one counts.
  pub data FlatFieldFails (memory : List ℕ) : List ValType → List ℕ → ℕ → ℕ → LiftWhy → ℕ → Type 0 where
    this_flat_field : (t : ValType) (types : List ValType) (words others : List ℕ) (at left : ℕ) (why : LiftWhy) (spot : ℕ) → length words ≡ length (flat t)
        → FlatFails memory t words at left why spot → FlatFieldFails memory (t ∷ types) (words ++ others) at left why spot
    later_flat_field : (t : ValType) (types : List ValType) (words others : List ℕ) (at left : ℕ) (v : Value) (why : LiftWhy) (spot : ℕ)
        → length words ≡ length (flat t) → FlatOf memory t v words → FlatFieldFails memory types others (at + length (flat t)) left why spot
        → FlatFieldFails memory (t ∷ types) (words ++ others) at (counts v + left) why spot

-- what is lifted from core values fails
abbrev pub LiftFlatFails : LiftOf → ValType → List ℕ → List ℕ → LiftWhy → ℕ → Type 0
LiftFlatFails what type memory words why spot = FlatFails memory type words 0 (most what) why spot
