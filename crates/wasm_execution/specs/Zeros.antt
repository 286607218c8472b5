-- The words of declared locals when a function begins (Core 2.0, section 4.4.10): zeros.
use Rattle.std.specs.Prelude.{ℕ, List, map}
use Rattle.syntax_trees.specs.declared.module_types.Locals.{Locals}
use Rattle.syntax_trees.specs.Locals.{declared_locals}

-- a 0 for each declared local
abbrev pub zeros : List Locals → List ℕ
zeros locals = map (λ type. 0) (declared_locals locals)
