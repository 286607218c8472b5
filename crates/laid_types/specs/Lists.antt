-- Which types hold a string or a list (Component Model, Explainer.md, "Type Definitions"). A stream or a future holds none: its elements
-- are no part of its end.
use Rattle.std.specs.Prelude.{Bool, true, false, ◌||◌, Option, Some, None}
use Rattle.syntax_trees.specs.declared.types.ValType.{ValType, fold-ValType}
use Rattle.syntax_trees.specs.declared.types.ValType.TheOpen.{ValType-F}
use Rattle.syntax_trees.specs.Ends.{some_true, part_true, end_case, end_field}

-- A type, where it is known of its parts whether they hold a string or a list.
abbrev pub list_step : ValType-F Bool Bool Bool → Bool
list_step ValType-F.String = true
list_step (ValType-F.List element) = true
list_step (ValType-F.Record fields) = some_true fields
list_step (ValType-F.Variant cases) = some_true cases
list_step (ValType-F.Tuple parts) = some_true parts
list_step (ValType-F.Option part) = part
list_step (ValType-F.Result ok err) = part_true ok || part_true err
list_step _ = false

-- whether a type holds a string or a list
abbrev pub has_list : ValType → Bool
has_list = fold-ValType Bool Bool Bool list_step end_case end_field

-- the same of a part, where there is one
abbrev pub held_list : Option ValType → Bool
held_list (Some part) = has_list part
held_list None = false
