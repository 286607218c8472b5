-- Characters by their outer layer: what folds over types and values give of them.
use Rattle.std.proofs.Common.{◌≡◌, ◌∙◌, ℕ, Bool, true, List, [], ◌∷◌, Option, ap, sym}
use Rattle.syntax_trees.specs.declared.core_type.CoreType.{CoreType}
use Rattle.syntax_trees.specs.declared.core_type.CoreType.TheVariants.{I32}
use Rattle.syntax_trees.specs.declared.types.ValType.{ValType, out-ValType}
use Rattle.syntax_trees.specs.declared.types.Case.{Case}
use Rattle.syntax_trees.specs.declared.types.Field.{Field}
use Rattle.syntax_trees.specs.declared.types.ValType.TheOpen as F
use Rattle.syntax_trees.specs.declared.types.ValType.TheVariants as leaves
use Rattle.syntax_trees.specs.declared.types.ValType.TheViews.{out-roll-ValType}
use Rattle.syntax_trees.specs.declared.types.ValType.TheFolds.{fold-roll-ValType}
use Rattle.syntax_trees.specs.declared.value.Value.TheOpen as V
use Rattle.syntax_trees.specs.declared.value.Value.TheVariants as plain
use Rattle.syntax_trees.specs.declared.value.Value.TheFolds.{fold-roll-Value}
use Rattle.laid_types.specs.Layout.{Laid, laid, laid_step, laid_case, laid_field}
use Rattle.syntax_trees.specs.Flat.{flat, flat_step, flat_case, flat_field}
use Rattle.abi_machine.specs.SameTypes.{same_layer, same_step, same_case, same_field, same_val}
use Rattle.abi_machine.specs.LiftingOver.{Ledger, Part, CasePart, FieldPart, case_by, field_by, part_step, part}
use Rattle.abi_machine.specs.LoweringOver.{New, Plan, Lowered, lower_step, lowered}

pub char_flat : flat leaves.Char ≡ I32 ∷ []
char_flat = ap flat (sym leaves.rolls-Char) ∙ fold-roll-ValType (List CoreType) (List CoreType) (List CoreType) flat_step flat_case flat_field F.Char

pub char_laid : laid leaves.Char ≡ record { size = 4; align = 4 }
char_laid = ap laid (sym leaves.rolls-Char) ∙ fold-roll-ValType Laid (Option Laid) Laid laid_step laid_case laid_field F.Char

pub char_same : same_val leaves.Char leaves.Char ≡ true
char_same =
    ap (λ (f : ValType → Bool). f leaves.Char) (ap same_val (sym leaves.rolls-Char) ∙ fold-roll-ValType (ValType → Bool) (Case → Bool) (Field → Bool) same_step same_case same_field F.Char)
    ∙ ap (λ (y : F.ValType-F ValType Case Field). same_layer F.Char y) (ap out-ValType (sym leaves.rolls-Char) ∙ out-roll-ValType F.Char)

pub char_part : {S T : Type 0} (l : Ledger S T) → part l leaves.Char ≡ part_step l F.Char
char_part {S} {T} l = ap (part l) (sym leaves.rolls-Char) ∙ fold-roll-ValType (Part S T) (CasePart S T) (FieldPart S T) (part_step l) case_by field_by F.Char

pub char_lowered : (enter : New → (ℕ → Plan) → Plan) (n : ℕ) → lowered enter (plain.Char n) ≡ lower_step enter (V.Char n)
char_lowered enter n = ap (lowered enter) (sym (plain.rolls-Char n)) ∙ fold-roll-Value Lowered (lower_step enter) (V.Char n)
