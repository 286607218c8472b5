-- Sizes and alignments of values in memory (Component Model, CanonicalABI.md, "Alignment" and "Element Size").
use Rattle.std.specs.Prelude.{length, [], ◌∷◌, Option, Some, None}
pub use Rattle.layouts.specs.Layout.{Laid, aligned, end_of, top_align, record_laid, top_size, there, tag_size, tagged, bits_size, scalar}
use Rattle.syntax_trees.specs.declared.types.ValType.{ValType, fold-ValType}
use Rattle.syntax_trees.specs.declared.types.ValType.TheOpen.{ValType-F, Field-F, Case-F}

-- A type, where the layouts of its parts are known.
abbrev pub laid_step : ValType-F Laid (Option Laid) Laid → Laid
laid_step ValType-F.Bool = scalar 1
laid_step ValType-F.S8 = scalar 1
laid_step ValType-F.U8 = scalar 1
laid_step ValType-F.S16 = scalar 2
laid_step ValType-F.U16 = scalar 2
laid_step ValType-F.S32 = scalar 4
laid_step ValType-F.U32 = scalar 4
laid_step ValType-F.S64 = scalar 8
laid_step ValType-F.U64 = scalar 8
laid_step ValType-F.Char = scalar 4
laid_step ValType-F.String = record { size = 8; align = 4 }
laid_step (ValType-F.Record fields) = record_laid fields
laid_step (ValType-F.Variant cases) = tagged (length cases) (there cases)
laid_step (ValType-F.List element) = record { size = 8; align = 4 }
laid_step (ValType-F.Tuple parts) = record_laid parts
laid_step (ValType-F.Flags labels) = scalar (bits_size (length labels))
laid_step (ValType-F.Enum labels) = tagged (length labels) []
laid_step (ValType-F.Option payload) = tagged 2 (payload ∷ [])
laid_step (ValType-F.Result ok err) = tagged 2 (there (ok ∷ err ∷ []))
laid_step (ValType-F.Own resource) = scalar 4
laid_step (ValType-F.Borrow resource) = scalar 4
laid_step (ValType-F.Stream element) = scalar 4
laid_step (ValType-F.Future element) = scalar 4

-- a case and a field, by the layouts of their types
abbrev pub laid_case : Case-F Laid (Option Laid) Laid → Option Laid
laid_case c = c.payload

abbrev pub laid_field : Field-F Laid (Option Laid) Laid → Laid
laid_field f = f.val_type

-- the layout of a type's values
abbrev pub laid : ValType → Laid
laid = fold-ValType Laid (Option Laid) Laid laid_step laid_case laid_field

-- the layout of a payload's values, where there is one
abbrev pub laid_payload : Option ValType → Option Laid
laid_payload (Some p) = Some (laid p)
laid_payload None = None
