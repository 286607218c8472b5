-- Types in which numbers of resources are changed, form by form.
use Rattle.std.proofs.Common.{◌≡◌, ◌∙◌, ℕ, List, map, refl, ap, sym, Option, Some, None}
use Rattle.std.specs.Option.{option_map}
use Rattle.syntax_trees.specs.declared.types.ValType.{ValType, roll-ValType}
use Rattle.syntax_trees.specs.declared.types.Case.{Case}
use Rattle.syntax_trees.specs.declared.types.Field.{Field}
use Rattle.syntax_trees.specs.declared.types.ValType.TheViews as types
use Rattle.syntax_trees.specs.declared.types.ValType.TheVariants as leaves
use Rattle.syntax_trees.specs.declared.types.ValType.TheOpen as F
use Rattle.syntax_trees.specs.declared.types.ValType.TheFolds.{fold-Case, fold-Field, fold-roll-ValType}
use Rattle.syntax_trees.specs.declared.types.ValType.TheVariants.{rolls-Bool, rolls-S8, rolls-U8, rolls-S16, rolls-U16, rolls-S32, rolls-U32, rolls-S64, rolls-U64, rolls-Char, rolls-String, rolls-Record, rolls-Variant, rolls-List, rolls-Tuple, rolls-Flags, rolls-Enum, rolls-Option, rolls-Result, rolls-Own, rolls-Borrow, rolls-Stream, rolls-Future}
use Rattle.syntax_trees.proofs.Folds.{held, fold_case, fold_field, fold_result, fold_stream, fold_future}
use Rattle.syntax_trees.proofs.Parts.{map_alike}
use Rattle.link_values.specs.Resources.{renumbered_step, same_case, same_field, renumbered}

abbrev pub renumbered_field : (ℕ → ℕ) → Field → Field
renumbered_field f x = record { label = x.label; val_type = renumbered f x.val_type }

abbrev pub renumbered_case : (ℕ → ℕ) → Case → Case
renumbered_case f c = record { label = c.label; payload = option_map (renumbered f) c.payload }

pub held_map : (f : ℕ → ℕ) (p : Option ValType) → held (renumbered f) p ≡ option_map (renumbered f) p
held_map f (Some p) = refl
held_map f None = refl

module _ (f : ℕ → ℕ) where
  pub of_bool : renumbered f leaves.Bool ≡ leaves.Bool
  of_bool = ap (renumbered f) (sym rolls-Bool) ∙ fold-roll-ValType ValType Case Field (renumbered_step f) same_case same_field F.Bool ∙ rolls-Bool

  pub of_s8 : renumbered f leaves.S8 ≡ leaves.S8
  of_s8 = ap (renumbered f) (sym rolls-S8) ∙ fold-roll-ValType ValType Case Field (renumbered_step f) same_case same_field F.S8 ∙ rolls-S8

  pub of_u8 : renumbered f leaves.U8 ≡ leaves.U8
  of_u8 = ap (renumbered f) (sym rolls-U8) ∙ fold-roll-ValType ValType Case Field (renumbered_step f) same_case same_field F.U8 ∙ rolls-U8

  pub of_s16 : renumbered f leaves.S16 ≡ leaves.S16
  of_s16 = ap (renumbered f) (sym rolls-S16) ∙ fold-roll-ValType ValType Case Field (renumbered_step f) same_case same_field F.S16 ∙ rolls-S16

  pub of_u16 : renumbered f leaves.U16 ≡ leaves.U16
  of_u16 = ap (renumbered f) (sym rolls-U16) ∙ fold-roll-ValType ValType Case Field (renumbered_step f) same_case same_field F.U16 ∙ rolls-U16

  pub of_s32 : renumbered f leaves.S32 ≡ leaves.S32
  of_s32 = ap (renumbered f) (sym rolls-S32) ∙ fold-roll-ValType ValType Case Field (renumbered_step f) same_case same_field F.S32 ∙ rolls-S32

  pub of_u32 : renumbered f leaves.U32 ≡ leaves.U32
  of_u32 = ap (renumbered f) (sym rolls-U32) ∙ fold-roll-ValType ValType Case Field (renumbered_step f) same_case same_field F.U32 ∙ rolls-U32

  pub of_s64 : renumbered f leaves.S64 ≡ leaves.S64
  of_s64 = ap (renumbered f) (sym rolls-S64) ∙ fold-roll-ValType ValType Case Field (renumbered_step f) same_case same_field F.S64 ∙ rolls-S64

  pub of_u64 : renumbered f leaves.U64 ≡ leaves.U64
  of_u64 = ap (renumbered f) (sym rolls-U64) ∙ fold-roll-ValType ValType Case Field (renumbered_step f) same_case same_field F.U64 ∙ rolls-U64

  pub of_char : renumbered f leaves.Char ≡ leaves.Char
  of_char = ap (renumbered f) (sym rolls-Char) ∙ fold-roll-ValType ValType Case Field (renumbered_step f) same_case same_field F.Char ∙ rolls-Char

  pub of_string : renumbered f leaves.String ≡ leaves.String
  of_string = ap (renumbered f) (sym rolls-String) ∙ fold-roll-ValType ValType Case Field (renumbered_step f) same_case same_field F.String ∙ rolls-String

  pub of_flags : (labels : List (List ℕ)) → renumbered f (leaves.Flags labels) ≡ leaves.Flags labels
  of_flags labels = ap (renumbered f) (sym (rolls-Flags labels)) ∙ fold-roll-ValType ValType Case Field (renumbered_step f) same_case same_field (F.Flags labels) ∙ rolls-Flags labels

  pub of_enum : (labels : List (List ℕ)) → renumbered f (leaves.Enum labels) ≡ leaves.Enum labels
  of_enum labels = ap (renumbered f) (sym (rolls-Enum labels)) ∙ fold-roll-ValType ValType Case Field (renumbered_step f) same_case same_field (F.Enum labels) ∙ rolls-Enum labels

  pub of_own : (n : ℕ) → renumbered f (leaves.Own n) ≡ leaves.Own (f n)
  of_own n = ap (renumbered f) (sym (rolls-Own n)) ∙ fold-roll-ValType ValType Case Field (renumbered_step f) same_case same_field (F.Own n) ∙ rolls-Own (f n)

  pub of_borrow : (n : ℕ) → renumbered f (leaves.Borrow n) ≡ leaves.Borrow (f n)
  of_borrow n = ap (renumbered f) (sym (rolls-Borrow n)) ∙ fold-roll-ValType ValType Case Field (renumbered_step f) same_case same_field (F.Borrow n) ∙ rolls-Borrow (f n)

  pub of_list : (t : ValType) → renumbered f (types.List t) ≡ types.List (renumbered f t)
  of_list t = ap (renumbered f) (sym (rolls-List t)) ∙ fold-roll-ValType ValType Case Field (renumbered_step f) same_case same_field (F.List t) ∙ rolls-List (renumbered f t)

  pub of_option : (t : ValType) → renumbered f (types.Option t) ≡ types.Option (renumbered f t)
  of_option t = ap (renumbered f) (sym (rolls-Option t)) ∙ fold-roll-ValType ValType Case Field (renumbered_step f) same_case same_field (F.Option t) ∙ rolls-Option (renumbered f t)

  pub of_tuple : (parts : List ValType) → renumbered f (types.Tuple parts) ≡ types.Tuple (map (renumbered f) parts)
  of_tuple parts = ap (renumbered f) (sym (rolls-Tuple parts)) ∙ fold-roll-ValType ValType Case Field (renumbered_step f) same_case same_field (F.Tuple parts) ∙ rolls-Tuple (map (renumbered f) parts)

  of_field : (x : Field) → fold-Field ValType Case Field (renumbered_step f) same_case same_field x ≡ renumbered_field f x
  of_field x = fold_field ValType Case Field (renumbered_step f) same_case same_field x

  of_case : (c : Case) → fold-Case ValType Case Field (renumbered_step f) same_case same_field c ≡ renumbered_case f c
  of_case c =
      fold_case ValType Case Field (renumbered_step f) same_case same_field c
      ∙ ap (λ (p : Option ValType). let d : Case = record { label = c.label; payload = p } in d) (held_map f c.payload)

  pub of_record : (fields : List Field) → renumbered f (types.Record fields) ≡ types.Record (map (renumbered_field f) fields)
  of_record fields =
      ap (renumbered f) (sym (rolls-Record fields))
      ∙ fold-roll-ValType ValType Case Field (renumbered_step f) same_case same_field (F.Record fields)
      ∙ rolls-Record (map (fold-Field ValType Case Field (renumbered_step f) same_case same_field) fields)
      ∙ ap types.Record (map_alike _ _ of_field fields)

  pub of_variant : (cases : List Case) → renumbered f (types.Variant cases) ≡ types.Variant (map (renumbered_case f) cases)
  of_variant cases =
      ap (renumbered f) (sym (rolls-Variant cases))
      ∙ fold-roll-ValType ValType Case Field (renumbered_step f) same_case same_field (F.Variant cases)
      ∙ rolls-Variant (map (fold-Case ValType Case Field (renumbered_step f) same_case same_field) cases)
      ∙ ap types.Variant (map_alike _ _ of_case cases)

  pub of_result : (ok err : Option ValType) → renumbered f (types.Result ok err) ≡ types.Result (option_map (renumbered f) ok) (option_map (renumbered f) err)
  of_result ok err =
      ap (renumbered f) (sym (rolls-Result ok err))
      ∙ fold_result ValType Case Field (renumbered_step f) same_case same_field ok err
      ∙ rolls-Result (held (renumbered f) ok) (held (renumbered f) err)
      ∙ ap (λ p. types.Result p (held (renumbered f) err)) (held_map f ok)
      ∙ ap (λ p. types.Result (option_map (renumbered f) ok) p) (held_map f err)

  pub of_stream : (e : Option ValType) → renumbered f (types.Stream e) ≡ types.Stream (option_map (renumbered f) e)
  of_stream e =
      ap (renumbered f) (sym (rolls-Stream e))
      ∙ fold_stream ValType Case Field (renumbered_step f) same_case same_field e
      ∙ rolls-Stream (held (renumbered f) e)
      ∙ ap types.Stream (held_map f e)

  pub of_future : (e : Option ValType) → renumbered f (types.Future e) ≡ types.Future (option_map (renumbered f) e)
  of_future e =
      ap (renumbered f) (sym (rolls-Future e))
      ∙ fold_future ValType Case Field (renumbered_step f) same_case same_field e
      ∙ rolls-Future (held (renumbered f) e)
      ∙ ap types.Future (held_map f e)
