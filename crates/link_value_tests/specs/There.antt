-- Whether the type of a number stands in a table of so many types, where there is a number (Component Model, Explainer.md, "Type
-- Definitions": a type names earlier types).
use Rattle.std.specs.Prelude.{ℕ, nat_lt, Bool, true, Option, Some, None}

abbrev pub is_there : ℕ → Option ℕ → Bool
is_there count (Some number) = nat_lt number count
is_there count None = true
