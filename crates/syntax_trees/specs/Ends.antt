-- Which types hold the end of a stream or a future (Component Model, Explainer.md, "Type Definitions").
use Rattle.std.specs.Prelude.{Bool, true, false, ◌||◌, List, [], ◌∷◌, map, Option, Some, None}
use Rattle.syntax_trees.specs.declared.types.ValType.{ValType, fold-ValType}
use Rattle.syntax_trees.specs.declared.types.ValType.TheOpen.{ValType-F, Field-F, Case-F}

-- whether one of several holds
abbrev pub some_true : List Bool → Bool
some_true [] = false
some_true (b ∷ bs) = b || some_true bs

abbrev pub part_true : Option Bool → Bool
part_true (Some part) = part
part_true None = false

-- A type, where it is known of its parts whether they hold an end.
abbrev pub end_step : ValType-F Bool Bool Bool → Bool
end_step (ValType-F.Record fields) = some_true fields
end_step (ValType-F.Variant cases) = some_true cases
end_step (ValType-F.List element) = element
end_step (ValType-F.Tuple parts) = some_true (map (λ p. p) parts)
end_step (ValType-F.Option part) = part
end_step (ValType-F.Result ok err) = part_true ok || part_true err
end_step (ValType-F.Stream element) = true
end_step (ValType-F.Future element) = true
end_step _ = false

abbrev pub end_case : Case-F Bool Bool Bool → Bool
end_case c = part_true c.payload

abbrev pub end_field : Field-F Bool Bool Bool → Bool
end_field f = f.val_type

-- whether a type holds the end of a stream or a future
abbrev pub has_end : ValType → Bool
has_end = fold-ValType Bool Bool Bool end_step end_case end_field

-- the same of the type of a payload or an element, where there is one
abbrev pub held_end : Option ValType → Bool
held_end (Some part) = has_end part
held_end None = false
