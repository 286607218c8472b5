-- What holds of tables of types (Component Model, Explainer.md, "Type Definitions") in which each type stands once.
use Rattle.std.specs.Prelude.{◌≡◌, ◌↔◌, ℕ, List, Some}
use Rattle.std.specs.List.{slice_get}
use Rattle.syntax_trees.specs.declared.types.ValType.{ValType}
use Rattle.link_values.specs.Numbering.{AreApart, IsAdded}

-- Two types are the same exactly where their numbers are.
abbrev pub NumbersSayEqual : Type 0
NumbersSayEqual =
    (types : List ValType) → AreApart types →
    (m n : ℕ) (t u : ValType) → slice_get types m ≡ Some t → slice_get types n ≡ Some u → (m ≡ n) ↔ (t ≡ u)

-- What stands stands there still once a type has been numbered.
abbrev pub StandingStays : Type 0
StandingStays =
    (old new : List ValType) (added : ValType) (number : ℕ) → IsAdded old added number new →
    (n : ℕ) (t : ValType) → slice_get old n ≡ Some t → slice_get new n ≡ Some t
