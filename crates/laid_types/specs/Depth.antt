-- The depth of types (Component Model, Explainer.md, "Type Definitions"): how many types stand in one another, the type itself counted.
-- A type without parts has depth 1.
use Rattle.std.specs.Prelude.{ℕ, suc, max, List, [], ◌∷◌, Option, Some, None}
use Rattle.syntax_trees.specs.declared.types.ValType.{ValType, fold-ValType}
use Rattle.syntax_trees.specs.declared.types.ValType.TheOpen.{ValType-F, Field-F, Case-F}

-- the greatest of several, 0 where there are none
abbrev pub greatest : List ℕ → ℕ
greatest [] = 0
greatest (d ∷ depths) = max d (greatest depths)

-- that of a part, 0 where there is none
abbrev pub part_depth : Option ℕ → ℕ
part_depth (Some part) = part
part_depth None = 0

-- A type, where the depths of its parts are known.
abbrev pub depth_step : ValType-F ℕ ℕ ℕ → ℕ
depth_step (ValType-F.Record fields) = suc (greatest fields)
depth_step (ValType-F.Variant cases) = suc (greatest cases)
depth_step (ValType-F.List element) = suc element
depth_step (ValType-F.Tuple parts) = suc (greatest parts)
depth_step (ValType-F.Option part) = suc part
depth_step (ValType-F.Result ok err) = suc (max (part_depth ok) (part_depth err))
depth_step (ValType-F.Stream element) = suc (part_depth element)
depth_step (ValType-F.Future element) = suc (part_depth element)
depth_step _ = 1

abbrev pub depth_case : Case-F ℕ ℕ ℕ → ℕ
depth_case c = part_depth c.payload

abbrev pub depth_field : Field-F ℕ ℕ ℕ → ℕ
depth_field f = f.val_type

-- the depth of a type
abbrev pub depth : ValType → ℕ
depth = fold-ValType ℕ ℕ ℕ depth_step depth_case depth_field

-- the same of a part, 0 where there is none
abbrev pub held_depth : Option ValType → ℕ
held_depth (Some part) = depth part
held_depth None = 0
