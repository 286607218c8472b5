-- What stands under names, by the numbers of the names, in order (Component Model, Explainer.md, "Import and Export Definitions").
use Rattle.std.specs.Prelude.{ℕ, ◌==◌, cond, List, [], ◌∷◌, Option, Some, None}

-- the item under a name: of equal names the first
abbrev pub item_named : {T : Type 0} → ℕ → List (ℕ × T) → Option T
item_named q [] = None
item_named q (entry ∷ entries) = cond (entry.0 == q) (Some entry.1) (item_named q entries)
