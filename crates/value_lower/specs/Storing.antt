-- The pieces of lowering (Component Model, CanonicalABI.md, "Storing", "Flat Lowering"): values without parts, texts, elements, fields and
-- cases, each as a plan with what follows it. Values are of their types: what is said where a value has no type is never asked for.
use Rattle.std.specs.Prelude.{ℕ, ◌+◌, ◌-◌, ◌*◌, ◌^◌, ◌%◌, ◌==◌, nat_lt, nat_le, ◌&&◌, Bool, if◌then◌else◌, List, [], ◌∷◌, ◌++◌, length, replicate, Option, Some, None}
use Rattle.std.specs.Int.{w8, w16, w32, w64, to_le_bytes, cast_unsigned, from_bool}
use mir.Val.{bits}
use Rattle.syntax_trees.specs.declared.types.ValType.{ValType}
use Rattle.syntax_trees.specs.declared.value.Value.TheOpen.{Value-F}
use Rattle.laid_types.specs.Layout.{laid, aligned, tag_size}
use Rattle.syntax_trees.specs.Flat.{flat}
use Rattle.laid_types.specs.Parts.{part_at, case_count, payload_place}
pub use Rattle.laid_types.specs.Placing.{width_of}
use Rattle.value_lower.specs.declared.ends.LowerWhy.TheVariants.{Misaligned, Bounds}
use Rattle.value_lower.specs.Plan.{Plan, Fails, Asks, Size, Put}

-- how a value is lowered: into a memory from a place on, and into core values behind others
pub record Lowered : Type 0 where
  pub store : ValType → ℕ → Plan → Plan
  pub words : ValType → List ℕ → (List ℕ → Plan) → Plan

-- A value without parts as its bytes, the lowest first. A handle and an end are told by the numbers that they have.
abbrev pub plain_bytes : {A : Type 0} → Value-F A → List ℕ
plain_bytes (Value-F.Bool b) = from_bool b ∷ []
plain_bytes (Value-F.S8 n) = to_le_bytes w8 (cast_unsigned w8 n)
plain_bytes (Value-F.U8 n) = to_le_bytes w8 n
plain_bytes (Value-F.S16 n) = to_le_bytes w16 (cast_unsigned w16 n)
plain_bytes (Value-F.U16 n) = to_le_bytes w16 n
plain_bytes (Value-F.S32 n) = to_le_bytes w32 (cast_unsigned w32 n)
plain_bytes (Value-F.U32 n) = to_le_bytes w32 n
plain_bytes (Value-F.S64 n) = to_le_bytes w64 (cast_unsigned w64 n)
plain_bytes (Value-F.U64 n) = to_le_bytes w64 n
plain_bytes (Value-F.Char c) = to_le_bytes w32 c
plain_bytes (Value-F.Own handle) = to_le_bytes w32 handle.rep
plain_bytes (Value-F.Borrow handle) = to_le_bytes w32 handle.rep
plain_bytes (Value-F.Stream number) = to_le_bytes w32 number
plain_bytes (Value-F.Future number) = to_le_bytes w32 number
plain_bytes other = []

-- The same as a core value: signed integers in 32 or 64 bits.
abbrev pub plain_word : {A : Type 0} → Value-F A → ℕ
plain_word (Value-F.Bool b) = from_bool b
plain_word (Value-F.S8 n) = cast_unsigned w32 n
plain_word (Value-F.U8 n) = n
plain_word (Value-F.S16 n) = cast_unsigned w32 n
plain_word (Value-F.U16 n) = n
plain_word (Value-F.S32 n) = cast_unsigned w32 n
plain_word (Value-F.U32 n) = n
plain_word (Value-F.S64 n) = cast_unsigned w64 n
plain_word (Value-F.U64 n) = n
plain_word (Value-F.Char c) = c
plain_word (Value-F.Own handle) = handle.rep
plain_word (Value-F.Borrow handle) = handle.rep
plain_word (Value-F.Stream number) = number
plain_word (Value-F.Future number) = number
plain_word other = 0

-- a number in 1, 2 or 4 bytes, the lowest first
abbrev pub number_bytes : ℕ → ℕ → List ℕ
number_bytes size n = to_le_bytes (width_of size) (n % 2 ^ bits (width_of size))

-- The number whose bits are flags, the first one the lowest bit. There are at most 32.
abbrev pub bits_of : List Bool → ℕ
bits_of [] = 0
bits_of (flag ∷ flags) = from_bool flag + 2 * bits_of flags

abbrev pub flags_number : List Bool → ℕ
flags_number flags = bits_of flags % 2 ^ 32

-- A place that is tested for so many bytes: first that it is a multiple of the alignment, then that all of them are inside.
abbrev pub tested : ℕ → ℕ → ℕ → Plan → Plan
tested place align size k =
    if place % align == 0 then Size (λ there. if nat_le (place + size) there then k else Fails Bounds) else Fails Misaligned

-- A new place for so many items of so many bytes in all. Where either is 2^32 or more nothing is asked for.
abbrev pub asked : ℕ → ℕ → ℕ → (ℕ → Plan) → Plan
asked count align size k =
    if nat_lt count (2 ^ 32) && nat_lt size (2 ^ 32)
    then Asks (record { old = 0; old_size = 0; align = align; size = size }) (λ place. tested place align size (k place))
    else Fails Bounds

-- the bytes of a text at a new place
abbrev pub text_in : List ℕ → (ℕ → Plan) → Plan
text_in text k = asked (length text) 1 (length text) (λ place. Put place text (k place))

-- values one after the other from a place on
abbrev pub elements_from : ValType → ℕ → List Lowered → Plan → Plan
elements_from element place [] k = k
elements_from element place (v ∷ all) k = v.store element place (elements_from element (place + (laid element).size) all k)

-- the elements of a list at a new place
abbrev pub list_in : Option ValType → List Lowered → (ℕ → Plan) → Plan
list_in (Some element) all k =
    asked (length all) (laid element).align (length all * (laid element).size) (λ place. elements_from element place all (k place))
list_in None all k = Fails Bounds

-- a place and a number of bytes or elements, where the text or the list stands
abbrev pub pointed : ℕ → ℕ → ℕ → Plan → Plan
pointed place to count k = Put place (to_le_bytes w32 to) (Put (place + 4) (to_le_bytes w32 count) k)

-- The values of a record whose parts so far end so far behind its place, each at the next multiple of its alignment. Padding stays
-- as it is.
abbrev pub fields_from : ℕ → ℕ → List (Option ValType) → List Lowered → Plan → Plan
fields_from place end [] all k = k
fields_from place end (t ∷ types) [] k = k
fields_from place end (None ∷ types) (v ∷ all) k = fields_from place end types all k
fields_from place end (Some t ∷ types) (v ∷ all) k =
    v.store t (place + aligned end (laid t).align) (fields_from place (aligned end (laid t).align + (laid t).size) types all k)

-- a payload, where there is one
abbrev pub payload_at : Option ValType → Option Lowered → ℕ → Plan → Plan
payload_at (Some t) (Some v) place k = v.store t place k
payload_at (Some t) None place k = k
payload_at None payload place k = k

-- the number of a case, and its payload behind it; the bytes that the payload leaves over stay
abbrev pub case_from : ValType → ℕ → Option Lowered → ℕ → Plan → Plan
case_from type n payload place k =
    Put place (number_bytes (tag_size (case_count type)) n) (payload_at (part_at type n) payload (place + payload_place type) k)

-- the values of a record, one after the other behind other core values
abbrev pub field_words : List (Option ValType) → List Lowered → List ℕ → (List ℕ → Plan) → Plan
field_words [] all before k = k before
field_words (t ∷ types) [] before k = k before
field_words (None ∷ types) (v ∷ all) before k = field_words types all before k
field_words (Some t ∷ types) (v ∷ all) before k = v.words t before (λ words. field_words types all words k)

-- a payload, where there is one
abbrev pub payload_words : Option ValType → Option Lowered → List ℕ → (List ℕ → Plan) → Plan
payload_words (Some t) (Some v) before k = v.words t before k
payload_words (Some t) None before k = k before
payload_words None payload before k = k before

-- core values with zeros behind them, until there are so many behind so many others
abbrev pub filled : ℕ → ℕ → List ℕ → List ℕ
filled count others words = words ++ replicate (count - (length words - others)) 0

-- The number of a case and its payload, and then zeros for the core values that other cases have more. A core value of 32 bits where
-- another case has one of 64 is the same number.
abbrev pub case_words : ValType → ℕ → Option Lowered → List ℕ → (List ℕ → Plan) → Plan
case_words type n payload before k =
    payload_words (part_at type n) payload (before ++ n ∷ []) (λ words. k (filled (length (flat type)) (length before) words))
