-- The texts of types, after the text format of interfaces (Component Model, WIT.md, "Types"). Labels stand as names do.
use Rattle.std.specs.Prelude.{ℕ, List, [], ◌++◌, Option, Some, None, codes}
use Rattle.std.specs.Fmt.{decimal}
use Rattle.syntax_trees.specs.Texts.{separated}
use Rattle.syntax_trees.specs.NameText.{name_text}
use Rattle.syntax_trees.specs.declared.types.ValType.{ValType, fold-ValType}
use Rattle.syntax_trees.specs.declared.types.Field.{Field}
use Rattle.syntax_trees.specs.declared.types.Case.{Case}
use Rattle.syntax_trees.specs.declared.types.ValType.TheOpen.{ValType-F, Field-F, Case-F}

abbrev pub Chars : Type 0
Chars = List ℕ

-- texts with a comma and a space between them
abbrev pub listed : List Chars → Chars
listed texts = separated (codes ", ") (λ (t : Chars). t) texts

-- labels with a comma and a space between them
abbrev pub listed_labels : List Chars → Chars
listed_labels labels = separated (codes ", ") name_text labels

-- a type that may be absent
abbrev pub part_text : Option Chars → Chars
part_text (Some p) = p
part_text None = codes "_"

-- the type of elements in angle brackets, where they have one
abbrev pub ended : Option Chars → Chars
ended (Some p) = codes "<" ++ p ++ codes ">"
ended None = []

abbrev pub resource_text : ℕ → Chars
resource_text resource = codes "<R" ++ decimal resource ++ codes ">"

-- A type, where the texts of its parts are known.
abbrev pub text_step : ValType-F Chars Chars Chars → Chars
text_step ValType-F.Bool = codes "bool"
text_step ValType-F.S8 = codes "s8"
text_step ValType-F.U8 = codes "u8"
text_step ValType-F.S16 = codes "s16"
text_step ValType-F.U16 = codes "u16"
text_step ValType-F.S32 = codes "s32"
text_step ValType-F.U32 = codes "u32"
text_step ValType-F.S64 = codes "s64"
text_step ValType-F.U64 = codes "u64"
text_step ValType-F.Char = codes "char"
text_step ValType-F.String = codes "string"
text_step (ValType-F.Record fields) = codes "record{" ++ listed fields ++ codes "}"
text_step (ValType-F.Variant cases) = codes "variant{" ++ listed cases ++ codes "}"
text_step (ValType-F.List element) = codes "list<" ++ element ++ codes ">"
text_step (ValType-F.Tuple parts) = codes "tuple<" ++ listed (parts) ++ codes ">"
text_step (ValType-F.Flags labels) = codes "flags" ++ (codes "{" ++ listed_labels labels ++ codes "}")
text_step (ValType-F.Enum labels) = codes "enum" ++ (codes "{" ++ listed_labels labels ++ codes "}")
text_step (ValType-F.Option part) = codes "option<" ++ part ++ codes ">"
text_step (ValType-F.Result ok err) = codes "result<" ++ part_text ok ++ codes ", " ++ part_text err ++ codes ">"
text_step (ValType-F.Own resource) = codes "own" ++ resource_text resource
text_step (ValType-F.Borrow resource) = codes "borrow" ++ resource_text resource
text_step (ValType-F.Stream element) = codes "stream" ++ ended element
text_step (ValType-F.Future element) = codes "future" ++ ended element

-- a label, and its payload's type in parentheses where it has one
abbrev pub labelled : Chars → Option Chars → Chars
labelled label (Some p) = name_text label ++ codes "(" ++ p ++ codes ")"
labelled label None = name_text label

abbrev pub text_case : Case-F Chars Chars Chars → Chars
text_case c = labelled c.label c.payload

abbrev pub text_field : Field-F Chars Chars Chars → Chars
text_field f = name_text f.label ++ codes ": " ++ f.val_type

-- the text of a type
abbrev pub type_text : ValType → Chars
type_text = fold-ValType Chars Chars Chars text_step text_case text_field

-- a field and a case
abbrev pub field_text : Field → Chars
field_text f = name_text f.label ++ codes ": " ++ type_text f.val_type

-- a part that may be absent
abbrev pub held_text : Option ValType → Option Chars
held_text (Some p) = Some (type_text p)
held_text None = None

abbrev pub case_text : Case → Chars
case_text c = labelled c.label (held_text c.payload)
