-- The texts of values, as scripts write them; handles and ends by their numbers. Labels stand as names do.
use Rattle.std.specs.Prelude.{◌==◌, Bool, true, false, if◌then◌else◌, List, [], ◌∷◌, ◌++◌, map, Option, Some, None, codes}
use Rattle.std.specs.Fmt.{decimal, signed_decimal}
use Rattle.std.specs.List.{slice_get}
use Rattle.syntax_trees.specs.CharText.{quoted, quoted_chars}
use Rattle.syntax_trees.specs.NameText.{name_text}
use Rattle.syntax_trees.specs.TypeText.{Chars, listed}
use Rattle.syntax_trees.specs.declared.types.ValType.{ValType, fold-ValType}
use Rattle.syntax_trees.specs.declared.types.Field.{Field}
use Rattle.syntax_trees.specs.declared.types.Case.{Case}
use Rattle.syntax_trees.specs.declared.types.ValType.TheOpen.{ValType-F, Field-F, Case-F}
use Rattle.syntax_trees.specs.declared.value.Value.{Value, out-Value}
use Rattle.syntax_trees.specs.declared.value.Value.TheOpen.{Value-F}
use Rattle.syntax_trees.specs.declared.value.Handle.{Handle}

-- the text of a type's values
abbrev pub Writer : Type 0
Writer = Value → Chars

-- a label as it stands in a text, and what is behind it
pub record Labelled (A : Type 0) : Type 0 where
  pub label : Chars
  pub rest : A

-- each value by its own writer
abbrev pub by_each : List Value → List Writer → List Chars
by_each [] writers = []
by_each (v ∷ values) [] = []
by_each (v ∷ values) (w ∷ writers) = w v ∷ by_each values writers

-- each value by its own writer, behind its label
abbrev pub by_label : List Value → List (Labelled Writer) → List Chars
by_label [] writers = []
by_label (v ∷ values) [] = []
by_label (v ∷ values) (w ∷ writers) = (w.label ++ codes ": " ++ w.rest v) ∷ by_label values writers

-- the labels that are set
abbrev pub set_labels : List Chars → List Bool → List Chars
set_labels [] flags = []
set_labels (l ∷ labels) [] = []
set_labels (l ∷ labels) (true ∷ flags) = l ∷ set_labels labels flags
set_labels (l ∷ labels) (false ∷ flags) = set_labels labels flags

-- a payload in parentheses, where there is one
abbrev pub payload_text : Writer → Option Value → Chars
payload_text w (Some v) = codes "(" ++ w v ++ codes ")"
payload_text w None = []

-- what stands behind the label of a case
abbrev pub rest_text : Option Writer → Option Value → Chars
rest_text (Some w) payload = payload_text w payload
rest_text None payload = []

abbrev pub bool_text : Bool → Chars
bool_text true = codes "true"
bool_text false = codes "false"

abbrev pub handle_text : Handle → Chars
handle_text handle = codes "R" ++ decimal handle.resource ++ codes ":" ++ decimal handle.rep

-- a value that its type tells nothing more about
abbrev pub plain_text : Value-F Value → Chars
plain_text (Value-F.Bool b) = bool_text b
plain_text (Value-F.S8 n) = signed_decimal n
plain_text (Value-F.U8 n) = decimal n
plain_text (Value-F.S16 n) = signed_decimal n
plain_text (Value-F.U16 n) = decimal n
plain_text (Value-F.S32 n) = signed_decimal n
plain_text (Value-F.U32 n) = decimal n
plain_text (Value-F.S64 n) = signed_decimal n
plain_text (Value-F.U64 n) = decimal n
plain_text (Value-F.Char c) = quoted_chars 39 (c ∷ [])
plain_text (Value-F.String text) = quoted 34 text
plain_text (Value-F.Own handle) = codes "own " ++ handle_text handle
plain_text (Value-F.Borrow handle) = codes "borrow " ++ handle_text handle
plain_text (Value-F.Stream number) = codes "stream S" ++ decimal number
plain_text (Value-F.Future number) = codes "future F" ++ decimal number
plain_text _ = []

abbrev pub record_text : List (Labelled Writer) → Value-F Value → Chars
record_text fields (Value-F.Record values) = codes "{" ++ listed (by_label values fields) ++ codes "}"
record_text fields _ = []

abbrev pub tuple_text : List Writer → Value-F Value → Chars
tuple_text parts (Value-F.Record values) = codes "(" ++ listed (by_each values parts) ++ codes ")"
tuple_text parts _ = []

abbrev pub list_text : Writer → Value-F Value → Chars
list_text element (Value-F.List values) = codes "[" ++ listed (map element values) ++ codes "]"
list_text element _ = []

abbrev pub flags_text : List Chars → Value-F Value → Chars
flags_text labels (Value-F.Flags flags) = codes "{" ++ listed (set_labels labels flags) ++ codes "}"
flags_text labels _ = []

abbrev pub chosen_text : Option (Labelled (Option Writer)) → Option Value → Chars
chosen_text (Some c) payload = c.label ++ rest_text c.rest payload
chosen_text None payload = []

abbrev pub variant_text : List (Labelled (Option Writer)) → Value-F Value → Chars
variant_text cases (Value-F.Variant case payload) = chosen_text (slice_get cases case) payload
variant_text cases _ = []

abbrev pub label_at : Option Chars → Chars
label_at (Some label) = label
label_at None = []

abbrev pub enum_text : List Chars → Value-F Value → Chars
enum_text labels (Value-F.Variant case payload) = label_at (slice_get labels case)
enum_text labels _ = []

abbrev pub option_text : Writer → Value-F Value → Chars
option_text some (Value-F.Variant case payload) = if case == 0 then codes "none" else (codes "some" ++ payload_text some payload)
option_text some _ = []

abbrev pub result_text : Option Writer → Option Writer → Value-F Value → Chars
result_text ok err (Value-F.Variant case payload) = if case == 0 then (codes "ok" ++ rest_text ok payload) else (codes "err" ++ rest_text err payload)
result_text ok err _ = []

-- A type, where the writers of its parts are known. A value that is of another type has no text.
abbrev pub writer_step : ValType-F Writer (Labelled (Option Writer)) (Labelled Writer) → Writer
writer_step (ValType-F.Record fields) v = record_text fields (out-Value v)
writer_step (ValType-F.Variant cases) v = variant_text cases (out-Value v)
writer_step (ValType-F.List element) v = list_text element (out-Value v)
writer_step (ValType-F.Tuple parts) v = tuple_text parts (out-Value v)
writer_step (ValType-F.Flags labels) v = flags_text (map name_text labels) (out-Value v)
writer_step (ValType-F.Enum labels) v = enum_text (map name_text labels) (out-Value v)
writer_step (ValType-F.Option part) v = option_text part (out-Value v)
writer_step (ValType-F.Result ok err) v = result_text ok err (out-Value v)
writer_step _ v = plain_text (out-Value v)

abbrev pub writer_case : Case-F Writer (Labelled (Option Writer)) (Labelled Writer) → Labelled (Option Writer)
writer_case c = record { label = name_text c.label; rest = c.payload }

abbrev pub writer_field : Field-F Writer (Labelled (Option Writer)) (Labelled Writer) → Labelled Writer
writer_field f = record { label = name_text f.label; rest = f.val_type }

-- the text of a type's values
abbrev pub writer : ValType → Writer
writer = fold-ValType Writer (Labelled (Option Writer)) (Labelled Writer) writer_step writer_case writer_field

-- the writer of a payload, where there is one
abbrev pub payload_writer : Option ValType → Option Writer
payload_writer (Some p) = Some (writer p)
payload_writer None = None

abbrev pub field_writer : Field → Labelled Writer
field_writer f = record { label = name_text f.label; rest = writer f.val_type }

abbrev pub case_writer : Case → Labelled (Option Writer)
case_writer c = record { label = name_text c.label; rest = payload_writer c.payload }

-- the text of a value of a type
abbrev pub value_text : Value → ValType → Chars
value_text v type = writer type v
