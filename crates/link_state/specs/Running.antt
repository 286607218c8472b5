-- Items that are linked one behind the other, and those of components that begin (Component Model, Explainer.md, "Instance
-- Definitions"), as they are gone through.
use Rattle.std.specs.Prelude.{ℕ, zero, suc, Ok}
use Rattle.link_spec.specs.Computed.{Run, run_within}

-- What becomes of the items of a component that begins, where so many more may begin in one another.
abbrev pub inside : ℕ → Run
inside zero = λ l n items. Ok l
inside (suc depth) = run_within depth
