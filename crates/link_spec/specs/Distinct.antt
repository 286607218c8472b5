-- What keeps labels and names distinct: of the parameters of a function (Component Model, Explainer.md, "Type Definitions"), and
-- of functions that can be called (Explainer.md, "Import and Export Definitions").
use Rattle.std.specs.Prelude.{◌≢◌, ℕ, List, map}
use Rattle.std.specs.List.{AllByRecursion}
use Rattle.syntax_trees.specs.Names.{AreDistinct}
use Rattle.syntax_trees.specs.declared.types.FuncType.{FuncType}

-- No two parameters of a function have one label.
abbrev pub HasDistinctLabels : FuncType → Type 0
HasDistinctLabels type = AreDistinct (map (λ p. p.label) type.params)

-- A name without a `#`, which stands between the name of an instance and that of a function of it. The grammar of names has
-- none.
abbrev pub HasNoHash : List ℕ → Type 0
HasNoHash name = AllByRecursion (λ b. b ≢ 35) name
