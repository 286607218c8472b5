-- Lowering with entries that are made (Component Model, CanonicalABI.md, "Storing", "Flat Lowering", `lower_own`, `lower_borrow`,
-- `lower_stream` and `lower_future`): how values go into the bytes of a memory and into core values, from left to right, and how what a
-- handle or an end names gets an index. It is a plan with what follows it; how an entry is made is left open.
--
-- This is what the machine needs of `value_lower`. It is written as that one is, and is to be replaced by it.
use Rattle.std.specs.Prelude.{ℕ, ◌+◌, ◌*◌, ◌^◌, ◌%◌, ◌==◌, nat_lt, nat_le, ◌&&◌, if◌then◌else◌, List, [], ◌∷◌, ◌++◌, map, length, Option, Some, None}
use Rattle.std.specs.Int.{w32, to_le_bytes}
use Rattle.builtin_kinds.specs.declared.EndKind.{EndKind}
use Rattle.builtin_kinds.specs.declared.EndKind.TheVariants as end_kind
use Rattle.syntax_trees.specs.declared.types.ValType.{ValType}
use Rattle.syntax_trees.specs.declared.value.Value.{Value, fold-Value}
use Rattle.syntax_trees.specs.declared.value.Value.TheOpen.{Value-F}
use Rattle.laid_types.specs.Layout.{laid, aligned, tag_size, bits_size}
use Rattle.syntax_trees.specs.Flat.{flat}
use Rattle.laid_types.specs.Parts.{parts_of, part_at, case_count, payload_place}
use Rattle.value_lower.specs.Plan.{Ask}
use Rattle.value_lower.specs.Lowering.{plain_bytes, plain_word, number_bytes, flags_number, filled}

-- what is to stand in a table: an own handle or a borrow handle of a resource with a representation, or the readable end of the stream or
-- the future of a number
pub data New : Type 0 where
  NewOwn : ℕ → ℕ → New
  NewBorrow : ℕ → ℕ → New
  NewEnd : EndKind → ℕ → New

-- why a value is not lowered
pub data Why : Type 0 where
  Misaligned : Why
  Bounds : Why
  TableFull : Why

pub data Plan : Type 0 where
  -- the core values that stand for what is lowered; of a store none
  Gives : List ℕ → Plan
  Fails : Why → Plan
  -- a realloc, and how it goes on with the place that is answered
  Asks : Ask → (ℕ → Plan) → Plan
  -- how many bytes the memory has then
  Size : (ℕ → Plan) → Plan
  -- these bytes at a place
  Put : ℕ → List ℕ → Plan → Plan
  -- an entry, and how it goes on with its index, none where the table is full
  Adds : New → (Option ℕ → Plan) → Plan

-- how a value is lowered: into a memory from a place on, and into core values behind others
pub record Lowered : Type 0 where
  pub store : ValType → ℕ → Plan → Plan
  pub words : ValType → List ℕ → (List ℕ → Plan) → Plan

-- A place that is tested for so many bytes: first that it is a multiple of the alignment, then that all of them are inside.
abbrev pub tested : ℕ → ℕ → ℕ → Plan → Plan
tested place align size k =
    if place % align == 0 then Size (λ there. if nat_le (place + size) there then k else Fails Bounds) else Fails Misaligned

-- A new place for so many items of so many bytes in all. Where either is 2^32 or more nothing is asked for.
abbrev pub asked : ℕ → ℕ → ℕ → (ℕ → Plan) → Plan
asked count align size k =
    if nat_lt count (2 ^ 32) && nat_lt size (2 ^ 32)
    then Asks (record { old = 0; old_size = 0; align = align; size = size }) (λ place. tested place align size (k place))
    else Fails Bounds

-- the bytes of a text at a new place
abbrev pub text_in : List ℕ → (ℕ → Plan) → Plan
text_in text k = asked (length text) 1 (length text) (λ place. Put place text (k place))

-- values one after the other from a place on
abbrev pub elements_from : ValType → ℕ → List Lowered → Plan → Plan
elements_from element place [] k = k
elements_from element place (v ∷ all) k = v.store element place (elements_from element (place + (laid element).size) all k)

-- the elements of a list at a new place
abbrev pub list_in : Option ValType → List Lowered → (ℕ → Plan) → Plan
list_in None all k = Fails Bounds
list_in (Some element) all k =
    asked (length all) (laid element).align (length all * (laid element).size) (λ place. elements_from element place all (k place))

-- a place and a number of bytes or elements, where the text or the list stands
abbrev pub pointed : ℕ → ℕ → ℕ → Plan → Plan
pointed place to count k = Put place (to_le_bytes w32 to) (Put (place + 4) (to_le_bytes w32 count) k)

-- The values of a record whose parts so far end so far behind its place, each at the next multiple of its alignment. Padding stays
-- as it is.
abbrev pub fields_from : ℕ → ℕ → List (Option ValType) → List Lowered → Plan → Plan
fields_from place end [] all k = k
fields_from place end (t ∷ types) [] k = k
fields_from place end (None ∷ types) (v ∷ all) k = fields_from place end types all k
fields_from place end (Some t ∷ types) (v ∷ all) k =
    v.store t (place + aligned end (laid t).align) (fields_from place (aligned end (laid t).align + (laid t).size) types all k)

-- a payload, where there is one
abbrev pub payload_at : Option ValType → Option Lowered → ℕ → Plan → Plan
payload_at (Some t) (Some v) place k = v.store t place k
payload_at (Some t) None place k = k
payload_at None payload place k = k

-- the number of a case, and its payload behind it; the bytes that the payload leaves over stay
abbrev pub case_from : ValType → ℕ → Option Lowered → ℕ → Plan → Plan
case_from type n payload place k =
    Put place (number_bytes (tag_size (case_count type)) n) (payload_at (part_at type n) payload (place + payload_place type) k)

-- the values of a record, one after the other behind other core values
abbrev pub field_words : List (Option ValType) → List Lowered → List ℕ → (List ℕ → Plan) → Plan
field_words [] all before k = k before
field_words (t ∷ types) [] before k = k before
field_words (None ∷ types) (v ∷ all) before k = field_words types all before k
field_words (Some t ∷ types) (v ∷ all) before k = v.words t before (λ words. field_words types all words k)

-- a payload, where there is one
abbrev pub payload_words : Option ValType → Option Lowered → List ℕ → (List ℕ → Plan) → Plan
payload_words (Some t) (Some v) before k = v.words t before k
payload_words (Some t) None before k = k before
payload_words None payload before k = k before

-- The number of a case and its payload, and then zeros for the core values that other cases have more.
abbrev pub case_words : ValType → ℕ → Option Lowered → List ℕ → (List ℕ → Plan) → Plan
case_words type n payload before k =
    payload_words (part_at type n) payload (before ++ n ∷ []) (λ words. k (filled (length (flat type)) (length before) words))

-- Over a way to make entries, with what follows for the index.
module _ (enter : New → (ℕ → Plan) → Plan) where
  -- an index in a memory, and as a core value
  abbrev pub index_at : New → ℕ → Plan → Plan
  index_at entry place k = enter entry (λ index. Put place (to_le_bytes w32 index) k)

  abbrev pub index_word : New → List ℕ → (List ℕ → Plan) → Plan
  index_word entry before k = enter entry (λ index. k (before ++ index ∷ []))

  -- Into a memory, from a place on. A tuple is the record of its places; an enum, an option and a result are variants
  -- (CanonicalABI.md, "Despecialization").
  abbrev pub store_case : Value-F Lowered → ValType → ℕ → Plan → Plan
  store_case (Value-F.String text) type place k = text_in text (λ to. pointed place to (length text) k)
  store_case (Value-F.List all) type place k = list_in (part_at type 0) all (λ to. pointed place to (length all) k)
  store_case (Value-F.Record all) type place k = fields_from place 0 (parts_of type) all k
  store_case (Value-F.Variant n payload) type place k = case_from type n payload place k
  store_case (Value-F.Flags flags) type place k = Put place (number_bytes (bits_size (length flags)) (flags_number flags)) k
  store_case (Value-F.Own handle) type place k = index_at (NewOwn handle.resource handle.rep) place k
  store_case (Value-F.Borrow handle) type place k = index_at (NewBorrow handle.resource handle.rep) place k
  store_case (Value-F.Stream number) type place k = index_at (NewEnd end_kind.Stream number) place k
  store_case (Value-F.Future number) type place k = index_at (NewEnd end_kind.Future number) place k
  store_case plain type place k = Put place (plain_bytes plain) k

  -- Into core values, behind others.
  abbrev pub words_case : Value-F Lowered → ValType → List ℕ → (List ℕ → Plan) → Plan
  words_case (Value-F.String text) type before k = text_in text (λ to. k (before ++ to ∷ length text ∷ []))
  words_case (Value-F.List all) type before k = list_in (part_at type 0) all (λ to. k (before ++ to ∷ length all ∷ []))
  words_case (Value-F.Record all) type before k = field_words (parts_of type) all before k
  words_case (Value-F.Variant n payload) type before k = case_words type n payload before k
  words_case (Value-F.Flags flags) type before k = k (before ++ flags_number flags ∷ [])
  words_case (Value-F.Own handle) type before k = index_word (NewOwn handle.resource handle.rep) before k
  words_case (Value-F.Borrow handle) type before k = index_word (NewBorrow handle.resource handle.rep) before k
  words_case (Value-F.Stream number) type before k = index_word (NewEnd end_kind.Stream number) before k
  words_case (Value-F.Future number) type before k = index_word (NewEnd end_kind.Future number) before k
  words_case plain type before k = k (before ++ plain_word plain ∷ [])

  abbrev pub lower_step : Value-F Lowered → Lowered
  lower_step v = record { store = store_case v; words = words_case v }

  -- how a value is lowered
  abbrev pub lowered : Value → Lowered
  lowered = fold-Value Lowered lower_step

  -- The value at a place, which is tested.
  abbrev pub stored : ValType → Value → ℕ → Plan
  stored type v place = tested place (laid type).align (laid type).size ((lowered v).store type place (Gives []))

  -- Values one after the other from a place on.
  abbrev pub all_stored : ValType → List Value → ℕ → Plan
  all_stored type all place = elements_from type place (map lowered all) (Gives [])

  -- The value in core values.
  abbrev pub flat_lowered : ValType → Value → Plan
  flat_lowered type v = (lowered v).words type [] (λ words. Gives words)

  -- The value at a new place, which is the one core value.
  abbrev pub placed : ValType → Value → Plan
  placed type v = asked 1 (laid type).align (laid type).size (λ place. (lowered v).store type place (Gives (place ∷ [])))
