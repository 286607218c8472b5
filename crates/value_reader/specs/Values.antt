-- Values in the texts of scripts: for each type the value at the front of a text, and what follows it. Values are of the
-- types of the Component Model (Explainer.md, "Type Definitions"); the format is the program's own. Blanks may stand
-- between the marks, the words, the labels, the numbers and the literals of a value.
use Rattle.std.specs.Prelude.{ℕ, zero, suc, ◌==◌, ◌&&◌, Bool, true, false, List, [], ◌∷◌, ◌++◌, map, length, codes, if◌then◌else◌, Option, Some, None}
use Rattle.std.specs.List.{slice_get, position}
use Rattle.std.specs.Option.{option_map, option_and_then}
use Rattle.std.specs.Str.{bytes_eq}
use Rattle.syntax_trees.specs.declared.types.ValType.{ValType, fold-ValType, out-ValType}
use Rattle.syntax_trees.specs.declared.types.Field.{Field}
use Rattle.syntax_trees.specs.declared.types.Case.{Case}
use Rattle.syntax_trees.specs.declared.types.ValType.TheOpen.{ValType-F, Field-F, Case-F}
use Rattle.syntax_trees.specs.declared.value.Value.{Value}
use Rattle.syntax_trees.specs.declared.value.Value.TheViews as values
use Rattle.syntax_trees.specs.declared.value.Value.TheVariants as plain
use Rattle.syntax_trees.specs.ValueText.{Labelled}
use Rattle.value_reader.specs.Tokens.{without_blanks, after, after_mark, label_of, behind_label, is_next, behind_next, unsigned_at, signed_at}
use Rattle.value_reader.specs.Quoted.{string_at, char_at}

-- what finds a value at the front of a text, and what follows it
abbrev pub Reader : Type 0
Reader = List ℕ → Option (Value × List ℕ)

-- a value found, of what was found
abbrev pub found : {A : Type 0} → (A → Value) → Option (A × List ℕ) → Option (Value × List ℕ)
found value p = option_map (λ q. (value q.0, q.1)) p

-- Truth values, integers, characters and texts.
abbrev pub word_or : Value → Option (List ℕ) → Option (Value × List ℕ) → Option (Value × List ℕ)
word_or v (Some rest) other = Some (v, rest)
word_or v None other = other

abbrev pub bool_at : Reader
bool_at text = word_or (plain.Bool true) (after (codes "true") text) (word_or (plain.Bool false) (after (codes "false") text) None)

abbrev pub s8_at : Reader
s8_at text = found plain.S8 (signed_at 0x7F text)

abbrev pub u8_at : Reader
u8_at text = found plain.U8 (unsigned_at 0xFF text)

abbrev pub s16_at : Reader
s16_at text = found plain.S16 (signed_at 0x7FFF text)

abbrev pub u16_at : Reader
u16_at text = found plain.U16 (unsigned_at 0xFFFF text)

abbrev pub s32_at : Reader
s32_at text = found plain.S32 (signed_at 0x7FFFFFFF text)

abbrev pub u32_at : Reader
u32_at text = found plain.U32 (unsigned_at 0xFFFFFFFF text)

abbrev pub s64_at : Reader
s64_at text = found plain.S64 (signed_at 0x7FFFFFFFFFFFFFFF text)

abbrev pub u64_at : Reader
u64_at text = found plain.U64 (unsigned_at 0xFFFFFFFFFFFFFFFF text)

abbrev pub char_value_at : Reader
char_value_at text = found plain.Char (char_at text)

abbrev pub string_value_at : Reader
string_value_at text = found plain.String (string_at text)

-- Values one after the other. Where another one follows these there stands a comma, but for the first one.
abbrev pub separated : List Value → List ℕ → Option (List ℕ)
separated [] text = Some text
separated (v ∷ values) text = after_mark 44 text

-- the values of these readers, behind others, and the mark that closes them
abbrev pub values_from : ℕ → List Value → List Reader → List ℕ → Option (List Value × List ℕ)
values_from close before [] text = option_map (λ rest. (before, rest)) (after_mark close text)
values_from close before (r ∷ readers) text =
    option_and_then (λ p. values_from close (before ++ p.0 ∷ []) readers p.1)
    (option_and_then (λ rest. r (without_blanks rest)) (separated before text))

abbrev pub values_at : ℕ → List Reader → List ℕ → Option (List Value × List ℕ)
values_at close readers text = values_from close [] readers text

-- A tuple has the values of its places in parentheses, a record those of its fields in braces, each behind its label and a
-- colon.
abbrev pub tuple_at : List Reader → Reader
tuple_at readers text = found values.Record (option_and_then (values_at 41 readers) (after (codes "(") text))

abbrev pub field_at : List ℕ → Reader → Reader
field_at label r text =
    if bytes_eq label (label_of text) then option_and_then (λ rest. r (without_blanks rest)) (after_mark 58 (behind_label text))
    else None

abbrev pub record_at : List Reader → Reader
record_at fields text = found values.Record (option_and_then (values_at 125 fields) (after (codes "{") text))

-- A list has its elements in brackets. What stands behind an element is the bracket that closes the list, or a comma and
-- another element. The elements that are still to come are at most so many.
abbrev pub closed_or : List Value → Option (List ℕ) → Option (List Value × List ℕ) → Option (List Value × List ℕ)
closed_or values (Some rest) others = Some (values, rest)
closed_or values None others = others

abbrev pub elements_from : Reader → ℕ → List Value → List ℕ → Option (List Value × List ℕ)
elements_from r zero before text = None
elements_from r (suc count) before text =
    option_and_then (λ p. closed_or (before ++ p.0 ∷ []) (after_mark 93 p.1) (option_and_then (λ rest. elements_from r count (before ++ p.0 ∷ []) rest) (after_mark 44 p.1)))
    (r (without_blanks text))

abbrev pub elements_at : Reader → List ℕ → Option (List Value × List ℕ)
elements_at r text = closed_or [] (after_mark 93 text) (elements_from r (length text) [] text)

abbrev pub list_at : Reader → Reader
list_at r text = found values.List (option_and_then (elements_at r) (after (codes "[") text))

-- Flags have the labels that are set in braces, in the order of the type. Each label of the type is set where it stands
-- next, and then either the brace that closes the flags or a comma and another label follow. The text is open until that
-- brace.
abbrev pub closed_or_more : Option (List ℕ) → Option (List ℕ) → Option (Bool × List ℕ)
closed_or_more (Some rest) more = Some (false, rest)
closed_or_more None more = option_map (λ rest. (true, rest)) more

abbrev pub behind_flag : List ℕ → Option (Bool × List ℕ)
behind_flag text = closed_or_more (after_mark 125 text) (after_mark 44 text)

abbrev pub flags_from : Bool → List Bool → List (List ℕ) → List ℕ → Option (List Bool × List ℕ)
flags_from is_open before [] text = if is_open then None else Some (before, text)
flags_from is_open before (l ∷ labels) text =
    if is_open && is_next l text
    then option_and_then (λ p. flags_from p.0 (before ++ true ∷ []) labels p.1) (behind_flag (behind_next text))
    else flags_from is_open (before ++ false ∷ []) labels text

abbrev pub flags_within : List (List ℕ) → List ℕ → Option (List ℕ) → Option (List Bool × List ℕ)
flags_within labels text (Some rest) = flags_from false [] labels rest
flags_within labels text None = flags_from true [] labels text

abbrev pub flags_in : List (List ℕ) → List ℕ → Option (List Bool × List ℕ)
flags_in labels text = option_and_then (λ inner. flags_within labels inner (after_mark 125 inner)) (after (codes "{") text)

abbrev pub flags_at : List (List ℕ) → Reader
flags_at labels text = found plain.Flags (flags_in labels text)

-- A payload stands in parentheses, exactly where there is a type for it.
abbrev pub payload_at : Reader → Reader
payload_at r text =
    option_and_then (λ p. option_map (λ rest. (p.0, rest)) (after_mark 41 p.1))
    (option_and_then (λ rest. r (without_blanks rest)) (after_mark 40 text))

abbrev pub rest_at : Option Reader → List ℕ → Option (Option Value × List ℕ)
rest_at (Some r) text = option_map (λ p. (Some p.0, p.1)) (payload_at r text)
rest_at None text = Some (None, text)

-- a case with what stands behind its label or word
abbrev pub case_at : ℕ → Option Reader → Reader
case_at n payload text = found (values.Variant n) (rest_at payload text)

-- A variant is the label of a case, an enum one of its labels. Of two equal labels the first is meant.
abbrev pub chosen_at : ℕ → Option (Labelled (Option Reader)) → Reader
chosen_at n (Some c) text = case_at n c.rest text
chosen_at n None text = None

abbrev pub place_of : List ℕ → List (List ℕ) → Option ℕ
place_of label labels = position (λ l. bytes_eq l label) labels

abbrev pub variant_at : List (Labelled (Option Reader)) → Reader
variant_at cases text =
    option_and_then (λ n. chosen_at n (slice_get cases n) (behind_label text)) (place_of (label_of text) (map (λ c. c.label) cases))

abbrev pub enum_at : List (List ℕ) → Reader
enum_at labels text = option_map (λ n. (values.Variant n None, behind_label text)) (place_of (label_of text) labels)

-- An option is `none`, or `some` with a value; a result is `ok` or `err`, each with a value where it has a type.
abbrev pub either_at : Reader → Option (List ℕ) → Reader → Option (List ℕ) → Option (Value × List ℕ)
either_at first (Some rest) second other = first rest
either_at first None second (Some rest) = second rest
either_at first None second None = None

abbrev pub option_at : Reader → Reader
option_at r text = either_at (case_at 0 None) (after (codes "none") text) (case_at 1 (Some r)) (after (codes "some") text)

abbrev pub result_at : Option Reader → Option Reader → Reader
result_at ok err text = either_at (case_at 0 ok) (after (codes "ok") text) (case_at 1 err) (after (codes "err") text)

-- A type without parts. Handles and the ends of streams and futures have no text.
abbrev pub plain_step : {A B C : Type 0} → ValType-F A B C → Reader
plain_step ValType-F.Bool text = bool_at text
plain_step ValType-F.S8 text = s8_at text
plain_step ValType-F.U8 text = u8_at text
plain_step ValType-F.S16 text = s16_at text
plain_step ValType-F.U16 text = u16_at text
plain_step ValType-F.S32 text = s32_at text
plain_step ValType-F.U32 text = u32_at text
plain_step ValType-F.S64 text = s64_at text
plain_step ValType-F.U64 text = u64_at text
plain_step ValType-F.Char text = char_value_at text
plain_step ValType-F.String text = string_value_at text
plain_step (ValType-F.Flags labels) text = flags_at labels text
plain_step (ValType-F.Enum labels) text = enum_at labels text
plain_step _ text = None

abbrev pub plain_at : ValType → Reader
plain_at type text = plain_step (out-ValType type) text

-- A type, where the readers of its parts are known.
abbrev pub reader_step : ValType-F Reader (Labelled (Option Reader)) Reader → Reader
reader_step (ValType-F.Record fields) text = record_at fields text
reader_step (ValType-F.Variant cases) text = variant_at cases text
reader_step (ValType-F.List element) text = list_at element text
reader_step (ValType-F.Tuple parts) text = tuple_at parts text
reader_step (ValType-F.Option part) text = option_at part text
reader_step (ValType-F.Result ok err) text = result_at ok err text
reader_step other text = plain_step other text

abbrev pub reader_case : Case-F Reader (Labelled (Option Reader)) Reader → Labelled (Option Reader)
reader_case c = record { label = c.label; rest = c.payload }

abbrev pub reader_field : Field-F Reader (Labelled (Option Reader)) Reader → Reader
reader_field f = field_at f.label f.val_type

-- what finds a type's values
abbrev pub reader : ValType → Reader
reader = fold-ValType Reader (Labelled (Option Reader)) Reader reader_step reader_case reader_field

-- what finds a payload, where there is a type for it
abbrev pub payload_reader : Option ValType → Option Reader
payload_reader (Some p) = Some (reader p)
payload_reader None = None

abbrev pub field_reader : Field → Reader
field_reader f = field_at f.label (reader f.val_type)

abbrev pub case_reader : Case → Labelled (Option Reader)
case_reader c = record { label = c.label; rest = payload_reader c.payload }

-- A value that is the whole text, but for blanks around it.
abbrev pub whole : Option (Value × List ℕ) → Option Value
whole p = option_and_then (λ q. if length (without_blanks q.1) == 0 then Some q.0 else None) p

abbrev pub read_value : ValType → List ℕ → Option Value
read_value type text = whole (reader type (without_blanks text))

-- Arguments of these types: their values in parentheses, and nothing behind them.
abbrev pub whole_list : Option (List Value × List ℕ) → Option (List Value)
whole_list p = option_and_then (λ q. if length q.1 == 0 then Some q.0 else None) p

abbrev pub arguments : List ValType → List ℕ → Option (List Value)
arguments types text = whole_list (option_and_then (values_at 41 (map reader types)) (after_mark 40 text))
