-- What the readers are for the types without parts.
use Rattle.std.proofs.Common.{◌≡◌, ◌∙◌, ℕ, List, ap, sym, Option}
use Rattle.syntax_trees.specs.declared.types.ValType.{ValType}
use Rattle.syntax_trees.specs.declared.types.ValType.TheVariants as leaves
use Rattle.syntax_trees.specs.declared.types.ValType.TheOpen as F
use Rattle.syntax_trees.specs.declared.types.ValType.TheFolds.{fold-roll-ValType}
use Rattle.syntax_trees.specs.declared.types.ValType.TheVariants.{rolls-Bool, rolls-S8, rolls-U8, rolls-S16, rolls-U16, rolls-S32, rolls-U32, rolls-S64, rolls-U64, rolls-Char, rolls-String, rolls-Flags, rolls-Enum}
use Rattle.syntax_trees.specs.ValueText.{Labelled}
use Rattle.value_reader.specs.Values.{Reader, reader, reader_step, reader_case, reader_field, bool_at, s8_at, u8_at, s16_at, u16_at, s32_at, u32_at, s64_at, u64_at, char_value_at, string_value_at, flags_at, enum_at}

abbrev Chosen : Type 0
Chosen = Labelled (Option Reader)

pub reader_of_bool : (text : List ℕ) → reader leaves.Bool text ≡ bool_at text
reader_of_bool text =
    ap (λ (t : ValType). reader t text) (sym rolls-Bool) ∙ ap (λ (r : Reader). r text) (fold-roll-ValType Reader Chosen Reader reader_step reader_case reader_field F.Bool)

pub reader_of_char : (text : List ℕ) → reader leaves.Char text ≡ char_value_at text
reader_of_char text =
    ap (λ (t : ValType). reader t text) (sym rolls-Char) ∙ ap (λ (r : Reader). r text) (fold-roll-ValType Reader Chosen Reader reader_step reader_case reader_field F.Char)

pub reader_of_string : (text : List ℕ) → reader leaves.String text ≡ string_value_at text
reader_of_string text =
    ap (λ (t : ValType). reader t text) (sym rolls-String) ∙ ap (λ (r : Reader). r text) (fold-roll-ValType Reader Chosen Reader reader_step reader_case reader_field F.String)

pub reader_of_flags : (labels : List (List ℕ)) (text : List ℕ) → reader (leaves.Flags labels) text ≡ flags_at labels text
reader_of_flags labels text =
    ap (λ (t : ValType). reader t text) (sym (rolls-Flags labels)) ∙ ap (λ (r : Reader). r text) (fold-roll-ValType Reader Chosen Reader reader_step reader_case reader_field (F.Flags labels))

pub reader_of_enum : (labels : List (List ℕ)) (text : List ℕ) → reader (leaves.Enum labels) text ≡ enum_at labels text
reader_of_enum labels text =
    ap (λ (t : ValType). reader t text) (sym (rolls-Enum labels)) ∙ ap (λ (r : Reader). r text) (fold-roll-ValType Reader Chosen Reader reader_step reader_case reader_field (F.Enum labels))

pub reader_of_s8 : (text : List ℕ) → reader leaves.S8 text ≡ s8_at text
reader_of_s8 text =
    ap (λ (t : ValType). reader t text) (sym rolls-S8) ∙ ap (λ (r : Reader). r text) (fold-roll-ValType Reader Chosen Reader reader_step reader_case reader_field F.S8)

pub reader_of_u8 : (text : List ℕ) → reader leaves.U8 text ≡ u8_at text
reader_of_u8 text =
    ap (λ (t : ValType). reader t text) (sym rolls-U8) ∙ ap (λ (r : Reader). r text) (fold-roll-ValType Reader Chosen Reader reader_step reader_case reader_field F.U8)

pub reader_of_s16 : (text : List ℕ) → reader leaves.S16 text ≡ s16_at text
reader_of_s16 text =
    ap (λ (t : ValType). reader t text) (sym rolls-S16) ∙ ap (λ (r : Reader). r text) (fold-roll-ValType Reader Chosen Reader reader_step reader_case reader_field F.S16)

pub reader_of_u16 : (text : List ℕ) → reader leaves.U16 text ≡ u16_at text
reader_of_u16 text =
    ap (λ (t : ValType). reader t text) (sym rolls-U16) ∙ ap (λ (r : Reader). r text) (fold-roll-ValType Reader Chosen Reader reader_step reader_case reader_field F.U16)

pub reader_of_s32 : (text : List ℕ) → reader leaves.S32 text ≡ s32_at text
reader_of_s32 text =
    ap (λ (t : ValType). reader t text) (sym rolls-S32) ∙ ap (λ (r : Reader). r text) (fold-roll-ValType Reader Chosen Reader reader_step reader_case reader_field F.S32)

pub reader_of_u32 : (text : List ℕ) → reader leaves.U32 text ≡ u32_at text
reader_of_u32 text =
    ap (λ (t : ValType). reader t text) (sym rolls-U32) ∙ ap (λ (r : Reader). r text) (fold-roll-ValType Reader Chosen Reader reader_step reader_case reader_field F.U32)

pub reader_of_s64 : (text : List ℕ) → reader leaves.S64 text ≡ s64_at text
reader_of_s64 text =
    ap (λ (t : ValType). reader t text) (sym rolls-S64) ∙ ap (λ (r : Reader). r text) (fold-roll-ValType Reader Chosen Reader reader_step reader_case reader_field F.S64)

pub reader_of_u64 : (text : List ℕ) → reader leaves.U64 text ≡ u64_at text
reader_of_u64 text =
    ap (λ (t : ValType). reader t text) (sym rolls-U64) ∙ ap (λ (r : Reader). r text) (fold-roll-ValType Reader Chosen Reader reader_step reader_case reader_field F.U64)
