-- Which types have values that a script can write as a trace does, each as no other value is written: those without handles
-- and ends of streams and futures, whose labels stand in a trace as they are and are such as a script has (Component Model,
-- Explainer.md, "Type Definitions"; the format is the program's own). And which values are sound: each number is within its
-- width, each character is a Unicode scalar value, each text is UTF-8. Every value of the program is sound.
use Rattle.std.specs.Prelude.{ℕ, ℤ, pos, negsuc, ◌==◌, ◌&&◌, Bool, true, false, not, nat_le, List, [], ◌∷◌, map, Option, Some, None}
use Rattle.std.specs.Str.{is_utf8, all_scalars}
use Rattle.syntax_trees.specs.Names.{is_among}
use Rattle.syntax_trees.specs.declared.types.ValType.{ValType, fold-ValType}
use Rattle.syntax_trees.specs.declared.types.ValType.TheOpen.{ValType-F, Field-F, Case-F}
use Rattle.syntax_trees.specs.declared.value.Value.{Value, fold-Value}
use Rattle.syntax_trees.specs.declared.value.Value.TheOpen.{Value-F}
use Rattle.syntax_trees.specs.Ends.{some_true}
use Rattle.syntax_trees.specs.NameText.{is_plain}
use Rattle.syntax_trees.specs.ValueText.{Labelled}
use Rattle.value_reader.specs.Tokens.{ends_label}

-- all of these
abbrev pub all_true : List Bool → Bool
all_true [] = true
all_true (b ∷ bs) = b && all_true bs

-- it holds where there is something
abbrev pub true_if_some : Option Bool → Bool
true_if_some (Some b) = b
true_if_some None = true

-- A label has characters that stand in a trace as they are, and no brackets, commas, colons and quotes, at which it would
-- end. One without bytes is written as nothing.
abbrev pub is_label : List ℕ → Bool
is_label [] = true
is_label (b ∷ label) = is_plain b && not (ends_label b) && is_label label

-- labels, no two of them equal
abbrev pub are_labels : List (List ℕ) → Bool
are_labels [] = true
are_labels (l ∷ labels) = is_label l && not (is_among l labels) && are_labels labels

-- what is told of a type: whether a script can write its values as a trace does, and whether one of them is written as nothing
pub record Told : Type 0 where
  pub writable : Bool
  pub silent : Bool

-- a type whose values are never written as nothing
abbrev pub spoken : Bool → Told
spoken writable = record { writable = writable; silent = false }

abbrev pub payload_writable : Option Told → Bool
payload_writable (Some told) = told.writable
payload_writable None = true

-- a case that is written as nothing: one without a label and without a payload
abbrev pub is_silent : {A : Type 0} → List ℕ → Option A → Bool
is_silent [] None = true
is_silent [] (Some payload) = false
is_silent (b ∷ label) payload = false

-- A type, where this is told of its parts. Where the one element of a list is written as nothing, the list looks like one
-- without elements; and so do flags where the one that is set is written as nothing.
abbrev pub told_step : ValType-F Told (Labelled Told) Bool → Told
told_step (ValType-F.Record fields) = spoken (all_true fields)
told_step (ValType-F.Variant cases) = record {
  writable = are_labels (map (λ (c : Labelled Told). c.label) cases) && all_true (map (λ (c : Labelled Told). c.rest.writable) cases);
  silent = some_true (map (λ (c : Labelled Told). c.rest.silent) cases);
}
told_step (ValType-F.List element) = spoken (element.writable && not element.silent)
told_step (ValType-F.Tuple parts) = spoken (all_true (map (λ (p : Told). p.writable) parts))
told_step (ValType-F.Flags labels) = spoken (are_labels labels && not (is_among [] labels))
told_step (ValType-F.Enum labels) = record { writable = are_labels labels; silent = is_among [] labels }
told_step (ValType-F.Option part) = spoken part.writable
told_step (ValType-F.Result ok err) = spoken (payload_writable ok && payload_writable err)
told_step (ValType-F.Own resource) = spoken false
told_step (ValType-F.Borrow resource) = spoken false
told_step (ValType-F.Stream element) = spoken false
told_step (ValType-F.Future element) = spoken false
told_step _ = spoken true

abbrev pub told_case : Case-F Told (Labelled Told) Bool → Labelled Told
told_case c = record { label = c.label; rest = record { writable = payload_writable c.payload; silent = is_silent c.label c.payload } }

abbrev pub told_field : Field-F Told (Labelled Told) Bool → Bool
told_field f = is_label f.label && f.val_type.writable

abbrev pub told : ValType → Told
told = fold-ValType Told (Labelled Told) Bool told_step told_case told_field

-- whether a script can write a type's values as a trace does, and whether one of them is written as nothing
abbrev pub is_writable : ValType → Bool
is_writable type = (told type).writable

abbrev pub may_be_silent : ValType → Bool
may_be_silent type = (told type).silent

-- a number that is within a range
abbrev pub is_within : ℕ → ℤ → Bool
is_within most (pos n) = nat_le n most
is_within most (negsuc n) = nat_le n most

-- A value, where it is known of its parts whether they are sound.
abbrev pub sound_step : Value-F Bool → Bool
sound_step (Value-F.S8 n) = is_within 0x7F n
sound_step (Value-F.U8 n) = nat_le n 0xFF
sound_step (Value-F.S16 n) = is_within 0x7FFF n
sound_step (Value-F.U16 n) = nat_le n 0xFFFF
sound_step (Value-F.S32 n) = is_within 0x7FFFFFFF n
sound_step (Value-F.U32 n) = nat_le n 0xFFFFFFFF
sound_step (Value-F.S64 n) = is_within 0x7FFFFFFFFFFFFFFF n
sound_step (Value-F.U64 n) = nat_le n 0xFFFFFFFFFFFFFFFF
sound_step (Value-F.Char c) = all_scalars (c ∷ [])
sound_step (Value-F.String text) = is_utf8 text
sound_step (Value-F.List values) = all_true values
sound_step (Value-F.Record values) = all_true values
sound_step (Value-F.Variant case payload) = true_if_some payload
sound_step _ = true

abbrev pub is_sound : Value → Bool
is_sound = fold-Value Bool sound_step
