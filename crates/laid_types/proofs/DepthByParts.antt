-- Depth by parts: that of a type is one more than the greatest of its parts.
use Rattle.std.proofs.Common.{◌≡◌, ◌∙◌, ℕ, suc, max, ap, sym, refl, arith, Option, Some, None}
use Rattle.syntax_trees.specs.declared.types.ValType.{ValType, out-ValType, roll-ValType}
use Rattle.syntax_trees.specs.declared.types.Case.{Case}
use Rattle.syntax_trees.specs.declared.types.Field.{Field}
use Rattle.syntax_trees.specs.declared.types.ValType.TheOpen as F
use Rattle.syntax_trees.specs.declared.types.ValType.TheViews.{roll-out-ValType}
use Rattle.syntax_trees.specs.declared.types.ValType.TheFolds.{fold-Case, fold-Field, fold-roll-ValType}
use Rattle.syntax_trees.proofs.Folds.{held, fold_case, fold_field, fold_result, fold_stream, fold_future}
use Rattle.syntax_trees.proofs.Parts.{map_alike}
use Rattle.laid_types.specs.Parts.{parts_case, parts_of}
use Rattle.laid_types.specs.Depth.{depth, depth_step, depth_case, depth_field, part_depth, held_depth}
use Rattle.laid_types.specs.Gathered.{depths, depth_over}
use Rattle.laid_types.proofs.ByParts.{Layer, map_twice}

pub max_alone : (d : ℕ) → d ≡ max d 0
max_alone d = omega arith

pub max_second : (d : ℕ) → d ≡ max 0 (max d 0)
max_second d = omega arith

pub max_two : (d e : ℕ) → max d e ≡ max d (max e 0)
max_two d e = omega arith

depth_of_payload : (p : Option ValType) → part_depth (held depth p) ≡ held_depth p
depth_of_payload (Some p) = refl
depth_of_payload None = refl

depth_of_case : (c : Case) → fold-Case ℕ ℕ ℕ depth_step depth_case depth_field c ≡ held_depth c.payload
depth_of_case c = fold_case ℕ ℕ ℕ depth_step depth_case depth_field c ∙ depth_of_payload c.payload

depth_of_field : (f : Field) → fold-Field ℕ ℕ ℕ depth_step depth_case depth_field f ≡ depth f.val_type
depth_of_field = fold_field ℕ ℕ ℕ depth_step depth_case depth_field

depth_rolled : (x : Layer) → depth (roll-ValType x) ≡ depth_over (depths (parts_case x))
depth_rolled F.Bool = fold-roll-ValType ℕ ℕ ℕ depth_step depth_case depth_field F.Bool
depth_rolled F.S8 = fold-roll-ValType ℕ ℕ ℕ depth_step depth_case depth_field F.S8
depth_rolled F.U8 = fold-roll-ValType ℕ ℕ ℕ depth_step depth_case depth_field F.U8
depth_rolled F.S16 = fold-roll-ValType ℕ ℕ ℕ depth_step depth_case depth_field F.S16
depth_rolled F.U16 = fold-roll-ValType ℕ ℕ ℕ depth_step depth_case depth_field F.U16
depth_rolled F.S32 = fold-roll-ValType ℕ ℕ ℕ depth_step depth_case depth_field F.S32
depth_rolled F.U32 = fold-roll-ValType ℕ ℕ ℕ depth_step depth_case depth_field F.U32
depth_rolled F.S64 = fold-roll-ValType ℕ ℕ ℕ depth_step depth_case depth_field F.S64
depth_rolled F.U64 = fold-roll-ValType ℕ ℕ ℕ depth_step depth_case depth_field F.U64
depth_rolled F.Char = fold-roll-ValType ℕ ℕ ℕ depth_step depth_case depth_field F.Char
depth_rolled F.String = fold-roll-ValType ℕ ℕ ℕ depth_step depth_case depth_field F.String
depth_rolled (F.Record fields) =
    fold-roll-ValType ℕ ℕ ℕ depth_step depth_case depth_field (F.Record fields)
    ∙ ap depth_over (map_alike _ _ depth_of_field fields ∙ sym (map_twice (λ (f : Field). Some f.val_type) held_depth fields))
depth_rolled (F.Variant cases) =
    fold-roll-ValType ℕ ℕ ℕ depth_step depth_case depth_field (F.Variant cases)
    ∙ ap depth_over (map_alike _ _ depth_of_case cases ∙ sym (map_twice (λ (c : Case). c.payload) held_depth cases))
depth_rolled (F.List e) = fold-roll-ValType ℕ ℕ ℕ depth_step depth_case depth_field (F.List e) ∙ ap suc (max_alone (depth e))
depth_rolled (F.Tuple parts) =
    fold-roll-ValType ℕ ℕ ℕ depth_step depth_case depth_field (F.Tuple parts)
    ∙ ap depth_over (sym (map_twice {B = Option ValType} Some held_depth parts))
depth_rolled (F.Flags labels) = fold-roll-ValType ℕ ℕ ℕ depth_step depth_case depth_field (F.Flags labels)
depth_rolled (F.Enum labels) = fold-roll-ValType ℕ ℕ ℕ depth_step depth_case depth_field (F.Enum labels)
depth_rolled (F.Option p) = fold-roll-ValType ℕ ℕ ℕ depth_step depth_case depth_field (F.Option p) ∙ ap suc (max_second (depth p))
depth_rolled (F.Result ok err) =
    fold_result ℕ ℕ ℕ depth_step depth_case depth_field ok err
    ∙ ap (λ (d : ℕ). suc (max d (part_depth (held depth err)))) (depth_of_payload ok)
    ∙ ap (λ (d : ℕ). suc (max (held_depth ok) d)) (depth_of_payload err)
    ∙ ap suc (max_two (held_depth ok) (held_depth err))
depth_rolled (F.Own n) = fold-roll-ValType ℕ ℕ ℕ depth_step depth_case depth_field (F.Own n)
depth_rolled (F.Borrow n) = fold-roll-ValType ℕ ℕ ℕ depth_step depth_case depth_field (F.Borrow n)
depth_rolled (F.Stream e) =
    fold_stream ℕ ℕ ℕ depth_step depth_case depth_field e ∙ ap suc (depth_of_payload e ∙ max_alone (held_depth e))
depth_rolled (F.Future e) =
    fold_future ℕ ℕ ℕ depth_step depth_case depth_field e ∙ ap suc (depth_of_payload e ∙ max_alone (held_depth e))

pub depth_by_parts : (t : ValType) → depth t ≡ depth_over (depths (parts_of t))
depth_by_parts t = ap depth (sym (roll-out-ValType t)) ∙ depth_rolled (out-ValType t)
