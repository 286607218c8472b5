-- Which types hold a handle, and which a borrowed one, and the greatest number of a resource that a type names (Component Model,
-- Explainer.md, "Type Definitions"). A stream or a future holds no handle: its elements are no part of its end. It names the resources
-- that its elements name.
use Rattle.std.specs.Prelude.{ℕ, max, Bool, true, false, ◌||◌, Option, Some, None}
use Rattle.syntax_trees.specs.declared.types.ValType.{ValType, fold-ValType}
use Rattle.syntax_trees.specs.declared.types.ValType.TheOpen.{ValType-F}
use Rattle.syntax_trees.specs.Ends.{some_true, part_true, end_case, end_field}
use Rattle.laid_types.specs.Depth.{greatest, part_depth, depth_case, depth_field}

-- A type, where it is known of its parts whether they hold a handle.
abbrev pub handle_step : ValType-F Bool Bool Bool → Bool
handle_step (ValType-F.Record fields) = some_true fields
handle_step (ValType-F.Variant cases) = some_true cases
handle_step (ValType-F.List element) = element
handle_step (ValType-F.Tuple parts) = some_true parts
handle_step (ValType-F.Option part) = part
handle_step (ValType-F.Result ok err) = part_true ok || part_true err
handle_step (ValType-F.Own resource) = true
handle_step (ValType-F.Borrow resource) = true
handle_step _ = false

-- whether a type holds a handle
abbrev pub has_handle : ValType → Bool
has_handle = fold-ValType Bool Bool Bool handle_step end_case end_field

-- the same of a part, where there is one
abbrev pub held_handle : Option ValType → Bool
held_handle (Some part) = has_handle part
held_handle None = false

-- A type, where it is known of its parts whether they hold a borrowed handle.
abbrev pub borrow_step : ValType-F Bool Bool Bool → Bool
borrow_step (ValType-F.Record fields) = some_true fields
borrow_step (ValType-F.Variant cases) = some_true cases
borrow_step (ValType-F.List element) = element
borrow_step (ValType-F.Tuple parts) = some_true parts
borrow_step (ValType-F.Option part) = part
borrow_step (ValType-F.Result ok err) = part_true ok || part_true err
borrow_step (ValType-F.Borrow resource) = true
borrow_step _ = false

-- whether a type holds a borrowed handle
abbrev pub has_borrow : ValType → Bool
has_borrow = fold-ValType Bool Bool Bool borrow_step end_case end_field

-- the same of a part, where there is one
abbrev pub held_borrow : Option ValType → Bool
held_borrow (Some part) = has_borrow part
held_borrow None = false

-- A type, where the greatest numbers of resources are known that its parts name.
abbrev pub top_step : ValType-F ℕ ℕ ℕ → ℕ
top_step (ValType-F.Record fields) = greatest fields
top_step (ValType-F.Variant cases) = greatest cases
top_step (ValType-F.List element) = element
top_step (ValType-F.Tuple parts) = greatest parts
top_step (ValType-F.Option part) = part
top_step (ValType-F.Result ok err) = max (part_depth ok) (part_depth err)
top_step (ValType-F.Own resource) = resource
top_step (ValType-F.Borrow resource) = resource
top_step (ValType-F.Stream element) = part_depth element
top_step (ValType-F.Future element) = part_depth element
top_step _ = 0

-- the greatest number of a resource that a type names, 0 where it names none
abbrev pub top_resource : ValType → ℕ
top_resource = fold-ValType ℕ ℕ ℕ top_step depth_case depth_field

-- the same of a part, 0 where there is none
abbrev pub held_top : Option ValType → ℕ
held_top (Some part) = top_resource part
held_top None = 0
