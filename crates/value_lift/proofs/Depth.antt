-- How deep types are, and that a part is less deep than what it is a part of.
use Rattle.std.proofs.Common.{◌≡◌, ◌∙◌, ◌<◌, ◌≤◌, ℕ, zero, suc, max, List, [], ◌∷◌, map, Option, Some, None, refl, ap, arith}
use Rattle.std.specs.List.{slice_get}
use Rattle.std.specs.Option.{option_and_then}
use Rattle.syntax_trees.specs.declared.types.ValType.{ValType, fold-ValType, out-ValType}
use Rattle.syntax_trees.specs.declared.types.Case.{Case}
use Rattle.syntax_trees.specs.declared.types.Field.{Field}
use Rattle.syntax_trees.specs.declared.types.ValType.TheOpen as F
use Rattle.syntax_trees.specs.declared.types.ValType.TheFolds.{map-ValType}
use Rattle.syntax_trees.proofs.Folds.{held, fold_case, fold_field}
use Rattle.laid_types.specs.Parts.{parts_of, parts_case, part_at}
use Rattle.value_lift.proofs.Layers.{by_layer}

-- the greatest of some numbers
abbrev greatest : List ℕ → ℕ
greatest [] = 0
greatest (n ∷ ns) = max n (greatest ns)

-- one more, where there is a number
abbrev raised : Option ℕ → ℕ
raised (Some n) = suc n
raised None = 0

abbrev depth_step : F.ValType-F ℕ ℕ ℕ → ℕ
depth_step (F.Record fields) = greatest (map suc fields)
depth_step (F.Variant cases) = greatest cases
depth_step (F.List element) = max (suc element) 0
depth_step (F.Tuple parts) = greatest (map suc parts)
depth_step (F.Option part) = max 0 (max (suc part) 0)
depth_step (F.Result ok err) = max (raised ok) (max (raised err) 0)
depth_step (F.Stream element) = max (raised element) 0
depth_step (F.Future element) = max (raised element) 0
depth_step other = 0

abbrev depth_case : F.Case-F ℕ ℕ ℕ → ℕ
depth_case c = raised c.payload

abbrev depth_field : F.Field-F ℕ ℕ ℕ → ℕ
depth_field f = f.val_type

abbrev pub depth : ValType → ℕ
depth = fold-ValType ℕ ℕ ℕ depth_step depth_case depth_field

-- one more than the depth of a part, where there is one
abbrev reach : Option ValType → ℕ
reach t = raised (held depth t)

abbrev deepest : List (Option ValType) → ℕ
deepest [] = 0
deepest (t ∷ ts) = max (reach t) (deepest ts)

of_fields : (fields : List Field) → greatest (map suc (map (λ (f : Field). depth f.val_type) fields)) ≡ deepest (map (λ (f : Field). Some f.val_type) fields)
of_fields [] = refl
of_fields (f ∷ fields) = ap (λ (n : ℕ). max (suc (depth f.val_type)) n) (of_fields fields)

of_parts : (parts : List ValType) → greatest (map suc (map depth parts)) ≡ deepest (map Some parts)
of_parts [] = refl
of_parts (t ∷ parts) = ap (λ (n : ℕ). max (suc (depth t)) n) (of_parts parts)

of_cases : (cases : List Case) → greatest (map (λ (c : Case). reach c.payload) cases) ≡ deepest (map (λ (c : Case). c.payload) cases)
of_cases [] = refl
of_cases (c ∷ cases) = ap (λ (n : ℕ). max (reach c.payload) n) (of_cases cases)

abbrev depths : F.ValType-F ValType Case Field → F.ValType-F ℕ ℕ ℕ
depths y = map-ValType ValType Case Field ℕ ℕ ℕ depth (λ (c : Case). reach c.payload) (λ (f : Field). depth f.val_type) y

of_layer : (y : F.ValType-F ValType Case Field) → depth_step (depths y) ≡ deepest (parts_case y)
of_layer (F.Record fields) = of_fields fields
of_layer (F.Variant cases) = of_cases cases
of_layer (F.List element) = refl
of_layer (F.Tuple parts) = of_parts parts
of_layer (F.Option part) = refl
of_layer (F.Result None None) = refl
of_layer (F.Result None (Some e)) = refl
of_layer (F.Result (Some o) None) = refl
of_layer (F.Result (Some o) (Some e)) = refl
of_layer (F.Stream None) = refl
of_layer (F.Stream (Some e)) = refl
of_layer (F.Future None) = refl
of_layer (F.Future (Some e)) = refl
of_layer other = refl

depth_is : (t : ValType) → depth t ≡ deepest (parts_of t)
depth_is t =
    by_layer ℕ ℕ ℕ depth_step depth_case depth_field (λ (c : Case). reach c.payload) (λ (f : Field). depth f.val_type)
    (fold_case ℕ ℕ ℕ depth_step depth_case depth_field) (fold_field ℕ ℕ ℕ depth_step depth_case depth_field) t
    ∙ of_layer (out-ValType t)

part_below : (ts : List (Option ValType)) (n : ℕ) (p : ValType) → option_and_then (λ part. part) (slice_get ts n) ≡ Some p → suc (depth p) ≤ deepest ts
part_below [] n p h = cc
part_below (t ∷ ts) zero p h =
    let e : reach t ≡ suc (depth p) = ap reach h in
    omega (arith, e)
part_below (t ∷ ts) (suc n) p h = omega (arith, part_below ts n p h)

pub deeper : (t p : ValType) (n : ℕ) → part_at t n ≡ Some p → depth p < depth t
deeper t p n h = omega (arith, part_below (parts_of t) n p h, depth_is t)
