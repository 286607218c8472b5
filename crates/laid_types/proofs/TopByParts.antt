-- The greatest number of a resource by parts: that of a handle is its own, that of another type the greatest of its parts.
use Rattle.std.proofs.Common.{◌≡◌, ◌∙◌, ℕ, max, ap, sym, refl, Option, Some, None}
use Rattle.syntax_trees.specs.declared.types.ValType.{ValType, out-ValType, roll-ValType}
use Rattle.syntax_trees.specs.declared.types.Case.{Case}
use Rattle.syntax_trees.specs.declared.types.Field.{Field}
use Rattle.syntax_trees.specs.declared.types.ValType.TheOpen as F
use Rattle.syntax_trees.specs.declared.types.ValType.TheViews.{roll-out-ValType}
use Rattle.syntax_trees.specs.declared.types.ValType.TheFolds.{fold-Case, fold-Field, fold-roll-ValType}
use Rattle.syntax_trees.proofs.Folds.{held, fold_case, fold_field, fold_result, fold_stream, fold_future}
use Rattle.syntax_trees.proofs.Parts.{map_alike}
use Rattle.laid_types.specs.Parts.{parts_case, parts_of}
use Rattle.laid_types.specs.Depth.{greatest, depth_case, depth_field, part_depth}
use Rattle.laid_types.specs.Handles.{top_resource, top_step, held_top}
use Rattle.laid_types.specs.Gathered.{tops, top_over}
use Rattle.laid_types.proofs.ByParts.{Layer, map_twice}
use Rattle.laid_types.proofs.DepthByParts.{max_alone, max_second, max_two}

top_of_payload : (p : Option ValType) → part_depth (held top_resource p) ≡ held_top p
top_of_payload (Some p) = refl
top_of_payload None = refl

top_of_case : (c : Case) → fold-Case ℕ ℕ ℕ top_step depth_case depth_field c ≡ held_top c.payload
top_of_case c = fold_case ℕ ℕ ℕ top_step depth_case depth_field c ∙ top_of_payload c.payload

top_of_field : (f : Field) → fold-Field ℕ ℕ ℕ top_step depth_case depth_field f ≡ top_resource f.val_type
top_of_field = fold_field ℕ ℕ ℕ top_step depth_case depth_field

top_rolled : (x : Layer) → top_resource (roll-ValType x) ≡ top_over x (tops (parts_case x))
top_rolled F.Bool = fold-roll-ValType ℕ ℕ ℕ top_step depth_case depth_field F.Bool
top_rolled F.S8 = fold-roll-ValType ℕ ℕ ℕ top_step depth_case depth_field F.S8
top_rolled F.U8 = fold-roll-ValType ℕ ℕ ℕ top_step depth_case depth_field F.U8
top_rolled F.S16 = fold-roll-ValType ℕ ℕ ℕ top_step depth_case depth_field F.S16
top_rolled F.U16 = fold-roll-ValType ℕ ℕ ℕ top_step depth_case depth_field F.U16
top_rolled F.S32 = fold-roll-ValType ℕ ℕ ℕ top_step depth_case depth_field F.S32
top_rolled F.U32 = fold-roll-ValType ℕ ℕ ℕ top_step depth_case depth_field F.U32
top_rolled F.S64 = fold-roll-ValType ℕ ℕ ℕ top_step depth_case depth_field F.S64
top_rolled F.U64 = fold-roll-ValType ℕ ℕ ℕ top_step depth_case depth_field F.U64
top_rolled F.Char = fold-roll-ValType ℕ ℕ ℕ top_step depth_case depth_field F.Char
top_rolled F.String = fold-roll-ValType ℕ ℕ ℕ top_step depth_case depth_field F.String
top_rolled (F.Record fields) =
    fold-roll-ValType ℕ ℕ ℕ top_step depth_case depth_field (F.Record fields)
    ∙ ap greatest (map_alike _ _ top_of_field fields ∙ sym (map_twice (λ (f : Field). Some f.val_type) held_top fields))
top_rolled (F.Variant cases) =
    fold-roll-ValType ℕ ℕ ℕ top_step depth_case depth_field (F.Variant cases)
    ∙ ap greatest (map_alike _ _ top_of_case cases ∙ sym (map_twice (λ (c : Case). c.payload) held_top cases))
top_rolled (F.List e) = fold-roll-ValType ℕ ℕ ℕ top_step depth_case depth_field (F.List e) ∙ max_alone (top_resource e)
top_rolled (F.Tuple parts) =
    fold-roll-ValType ℕ ℕ ℕ top_step depth_case depth_field (F.Tuple parts)
    ∙ ap greatest (sym (map_twice {B = Option ValType} Some held_top parts))
top_rolled (F.Flags labels) = fold-roll-ValType ℕ ℕ ℕ top_step depth_case depth_field (F.Flags labels)
top_rolled (F.Enum labels) = fold-roll-ValType ℕ ℕ ℕ top_step depth_case depth_field (F.Enum labels)
top_rolled (F.Option p) = fold-roll-ValType ℕ ℕ ℕ top_step depth_case depth_field (F.Option p) ∙ max_second (top_resource p)
top_rolled (F.Result ok err) =
    fold_result ℕ ℕ ℕ top_step depth_case depth_field ok err
    ∙ ap (λ (d : ℕ). max d (part_depth (held top_resource err))) (top_of_payload ok)
    ∙ ap (λ (d : ℕ). max (held_top ok) d) (top_of_payload err)
    ∙ max_two (held_top ok) (held_top err)
top_rolled (F.Own n) = fold-roll-ValType ℕ ℕ ℕ top_step depth_case depth_field (F.Own n)
top_rolled (F.Borrow n) = fold-roll-ValType ℕ ℕ ℕ top_step depth_case depth_field (F.Borrow n)
top_rolled (F.Stream e) =
    fold_stream ℕ ℕ ℕ top_step depth_case depth_field e ∙ top_of_payload e ∙ max_alone (held_top e)
top_rolled (F.Future e) =
    fold_future ℕ ℕ ℕ top_step depth_case depth_field e ∙ top_of_payload e ∙ max_alone (held_top e)

pub top_by_parts : (t : ValType) → top_resource t ≡ top_over (out-ValType t) (tops (parts_of t))
top_by_parts t = ap top_resource (sym (roll-out-ValType t)) ∙ top_rolled (out-ValType t)
