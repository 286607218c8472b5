-- The texts of values with their types.
use Rattle.std.specs.Prelude.{ℕ, List, length, codes}
use Rattle.syntax_trees.specs.Texts.{separated}
use Rattle.syntax_trees.specs.ValueText.{value_text}
use Rattle.trace_labels.specs.declared.typed.TypedValue.{TypedValue}
use Rattle.trace_labels.specs.declared.typed.TypedValues.{TypedValues}

-- a value, by its type
abbrev pub typed_text : TypedValue → List ℕ
typed_text v = value_text v.value v.val_type

-- values of one type
abbrev pub each_typed_text : TypedValues → List ℕ
each_typed_text vs = separated (codes ", ") (λ v. value_text v vs.val_type) vs.values

-- how many they are
abbrev pub count_of : TypedValues → ℕ
count_of vs = length vs.values
