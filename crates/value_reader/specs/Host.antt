-- Which types hold a handle or the end of a stream or a future, whose values no script can write (Component Model,
-- Explainer.md, "Type Definitions").
use Rattle.std.specs.Prelude.{Bool, true, false, ◌||◌, map, Option, Some, None}
use Rattle.syntax_trees.specs.declared.types.ValType.{ValType, fold-ValType}
use Rattle.syntax_trees.specs.declared.types.ValType.TheOpen.{ValType-F}
use Rattle.syntax_trees.specs.declared.types.FuncType.{FuncType}
use Rattle.syntax_trees.specs.Ends.{some_true, part_true, end_case, end_field}

-- A type, where it is known of its parts whether they hold one.
abbrev pub host_step : ValType-F Bool Bool Bool → Bool
host_step (ValType-F.Record fields) = some_true fields
host_step (ValType-F.Variant cases) = some_true cases
host_step (ValType-F.List element) = element
host_step (ValType-F.Tuple parts) = some_true parts
host_step (ValType-F.Option part) = part
host_step (ValType-F.Result ok err) = part_true ok || part_true err
host_step (ValType-F.Own resource) = true
host_step (ValType-F.Borrow resource) = true
host_step (ValType-F.Stream element) = true
host_step (ValType-F.Future element) = true
host_step _ = false

-- whether a type holds a handle or an end
abbrev pub has_host_type : ValType → Bool
has_host_type = fold-ValType Bool Bool Bool host_step end_case end_field

-- the same of a payload's type, where there is one
abbrev pub held_host_type : Option ValType → Bool
held_host_type (Some part) = has_host_type part
held_host_type None = false

-- the same of a parameter or the result of a function
abbrev pub func_has_host_type : FuncType → Bool
func_has_host_type f = some_true (map (λ p. has_host_type p.val_type) f.params) || held_host_type f.result
