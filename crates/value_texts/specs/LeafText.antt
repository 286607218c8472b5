-- The texts of types without parts, after the text format of interfaces (Component Model, WIT.md, "Types").
use Rattle.std.specs.Prelude.{[], ◌++◌, codes}
use Rattle.syntax_trees.specs.declared.types.ValType.TheOpen.{ValType-F}
use Rattle.syntax_trees.specs.TypeText.{Chars, listed_labels, resource_text}

-- a type that has neither parts nor labels; another type has no such name
abbrev pub primitive_text : {A B C : Type 0} → ValType-F A B C → Chars
primitive_text ValType-F.Bool = codes "bool"
primitive_text ValType-F.S8 = codes "s8"
primitive_text ValType-F.U8 = codes "u8"
primitive_text ValType-F.S16 = codes "s16"
primitive_text ValType-F.U16 = codes "u16"
primitive_text ValType-F.S32 = codes "s32"
primitive_text ValType-F.U32 = codes "u32"
primitive_text ValType-F.S64 = codes "s64"
primitive_text ValType-F.U64 = codes "u64"
primitive_text ValType-F.Char = codes "char"
primitive_text ValType-F.String = codes "string"
primitive_text _ = []

-- a type that has no parts; of another type nothing
abbrev pub leaf_text : {A B C : Type 0} → ValType-F A B C → Chars
leaf_text (ValType-F.Flags labels) = codes "flags" ++ (codes "{" ++ listed_labels labels ++ codes "}")
leaf_text (ValType-F.Enum labels) = codes "enum" ++ (codes "{" ++ listed_labels labels ++ codes "}")
leaf_text (ValType-F.Own resource) = codes "own" ++ resource_text resource
leaf_text (ValType-F.Borrow resource) = codes "borrow" ++ resource_text resource
leaf_text leaf = primitive_text leaf
