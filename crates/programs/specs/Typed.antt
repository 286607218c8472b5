-- The arguments of a call of a script with their types (Component Model, CanonicalABI.md, `canon lift`).
use Rattle.std.specs.Prelude.{List, [], ◌∷◌}
use Rattle.syntax_trees.specs.declared.types.ValType.{ValType}
use Rattle.syntax_trees.specs.declared.value.Value.{Value}
use Rattle.trace_labels.specs.declared.typed.TypedValue.{TypedValue}

-- values with their types, as many as both
abbrev pub typed : List ValType → List Value → List TypedValue
typed [] values = []
typed (type ∷ types) [] = []
typed (type ∷ types) (v ∷ values) = record { value = v; val_type = type } ∷ typed types values
