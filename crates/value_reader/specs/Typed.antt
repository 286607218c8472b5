-- Values of types, one for each, as a call has them (Component Model, Explainer.md, "Type Definitions").
use Rattle.std.specs.Prelude.{IsTrue, List, [], ◌∷◌}
use Rattle.syntax_trees.specs.declared.types.ValType.{ValType}
use Rattle.syntax_trees.specs.declared.value.Value.{Value}
use Rattle.syntax_trees.specs.Fits.{fits}
use Rattle.value_reader.specs.Writable.{is_sound}

-- as many values as types, each of which fits its type and is sound
abbrev pub AreOfTypes : List ValType → List Value → Type 0
AreOfTypes [] [] = Unit {0}
AreOfTypes [] (v ∷ values) = ⊥
AreOfTypes (t ∷ types) [] = ⊥
AreOfTypes (t ∷ types) (v ∷ values) = IsTrue (fits v t) × IsTrue (is_sound v) × AreOfTypes types values
