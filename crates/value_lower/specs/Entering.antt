-- Lowering over any way to enter handles and ends (Component Model, CanonicalABI.md, "Storing", "Flat Lowering", `lower_own`,
-- `lower_borrow`, `lower_stream` and `lower_future`): how values go into the bytes of a memory and into core values, from left to right.
-- It is said by cases on the value, as a plan with what follows it. What a handle or an end is entered for goes on with its index.
use Rattle.std.specs.Prelude.{ℕ, ◌*◌, List, [], ◌∷◌, ◌++◌, map, length}
use Rattle.std.specs.Int.{w32, to_le_bytes}
use Rattle.syntax_trees.specs.declared.types.ValType.{ValType}
use Rattle.syntax_trees.specs.declared.value.Value.{Value, fold-Value, out-Value}
use Rattle.syntax_trees.specs.declared.value.Value.TheOpen.{Value-F}
use Rattle.syntax_trees.specs.declared.value.Value.TheFolds.{map-Value}
use Rattle.laid_types.specs.Layout.{laid, bits_size}
use Rattle.laid_types.specs.Parts.{parts_of, part_at}
use Rattle.value_lower.specs.Plan.{New, NewOwn, NewBorrow, NewEnd, Plan, Gives, Put}
use Rattle.value_lower.specs.Storing.{Lowered, plain_bytes, plain_word, number_bytes, flags_number, tested, asked, text_in, elements_from, list_in, pointed, fields_from, case_from, field_words, case_words}

module _ (enter : New → (ℕ → Plan) → Plan) where
  -- an index in a memory, and as a core value
  abbrev pub index_at : New → ℕ → Plan → Plan
  index_at entry place k = enter entry (λ index. Put place (to_le_bytes w32 index) k)

  abbrev pub index_word : New → List ℕ → (List ℕ → Plan) → Plan
  index_word entry before k = enter entry (λ index. k (before ++ index ∷ []))

  -- Into a memory, from a place on. A tuple is the record of its places; an enum, an option and a result are variants
  -- (CanonicalABI.md, "Despecialization").
  abbrev pub store_case : Value-F Lowered → ValType → ℕ → Plan → Plan
  store_case (Value-F.String text) type place k = text_in text (λ to. pointed place to (length text) k)
  store_case (Value-F.List all) type place k = list_in (part_at type 0) all (λ to. pointed place to (length all) k)
  store_case (Value-F.Record all) type place k = fields_from place 0 (parts_of type) all k
  store_case (Value-F.Variant n payload) type place k = case_from type n payload place k
  store_case (Value-F.Flags flags) type place k = Put place (number_bytes (bits_size (length flags)) (flags_number flags)) k
  store_case (Value-F.Own handle) type place k = index_at (NewOwn handle.resource handle.rep) place k
  store_case (Value-F.Borrow handle) type place k = index_at (NewBorrow handle.resource handle.rep) place k
  store_case (Value-F.Stream number) type place k = index_at (NewEnd type number) place k
  store_case (Value-F.Future number) type place k = index_at (NewEnd type number) place k
  store_case plain type place k = Put place (plain_bytes plain) k

  -- Into core values, behind others.
  abbrev pub words_case : Value-F Lowered → ValType → List ℕ → (List ℕ → Plan) → Plan
  words_case (Value-F.String text) type before k = text_in text (λ to. k (before ++ to ∷ length text ∷ []))
  words_case (Value-F.List all) type before k = list_in (part_at type 0) all (λ to. k (before ++ to ∷ length all ∷ []))
  words_case (Value-F.Record all) type before k = field_words (parts_of type) all before k
  words_case (Value-F.Variant n payload) type before k = case_words type n payload before k
  words_case (Value-F.Flags flags) type before k = k (before ++ flags_number flags ∷ [])
  words_case (Value-F.Own handle) type before k = index_word (NewOwn handle.resource handle.rep) before k
  words_case (Value-F.Borrow handle) type before k = index_word (NewBorrow handle.resource handle.rep) before k
  words_case (Value-F.Stream number) type before k = index_word (NewEnd type number) before k
  words_case (Value-F.Future number) type before k = index_word (NewEnd type number) before k
  words_case plain type before k = k (before ++ plain_word plain ∷ [])

  abbrev pub lower_step : Value-F Lowered → Lowered
  lower_step v = record { store = store_case v; words = words_case v }

  -- how a value is lowered
  abbrev pub lowered : Value → Lowered
  lowered = fold-Value Lowered lower_step

  -- the outer layer of a value, where it is known how its parts are lowered
  abbrev pub layer_of : Value → Value-F Lowered
  layer_of v = map-Value Value Lowered lowered (out-Value v)

  abbrev pub store : ValType → Value → ℕ → Plan → Plan
  store type v = (lowered v).store type

  abbrev pub flat_words : ValType → Value → List ℕ → (List ℕ → Plan) → Plan
  flat_words type v = (lowered v).words type

  -- The value at a place, which is tested.
  abbrev pub stored : ValType → Value → ℕ → Plan
  stored type v place = tested place (laid type).align (laid type).size (store type v place (Gives []))

  -- Values one after the other from a place on, which is tested for all of them. Of none nothing is tested.
  abbrev pub all_stored : ValType → List Value → ℕ → Plan
  all_stored type [] place = Gives []
  all_stored type (v ∷ all) place =
      tested place (laid type).align (length (v ∷ all) * (laid type).size) (elements_from type place (map lowered (v ∷ all)) (Gives []))

  -- The value in core values.
  abbrev pub flat_lowered : ValType → Value → Plan
  flat_lowered type v = flat_words type v [] (λ words. Gives words)

  -- The value at a new place, which is the one core value.
  abbrev pub placed : ValType → Value → Plan
  placed type v = asked 1 (laid type).align (laid type).size (λ place. store type v place (Gives (place ∷ [])))
