-- A stack of a task begins (Component Model, CanonicalABI.md, `canon lift`, `canon resource.drop`).
use Rattle.std.specs.Prelude.{ℕ, List}
use Rattle.comp_graph.specs.declared.graph.FuncRef.{FuncRef}
use Rattle.world_parts.specs.declared.parts.Rest.TheVariants as rest
use Rattle.world_parts.specs.Held.{Held, Done, Gives, given}
use Rattle.world_parts.specs.Feed.{at_rest}
use Rattle.world_stacks.specs.Views.{PileView}
use Rattle.world_stacks.specs.Piles.{stacked, at_pile}
use Rattle.world_stacks.specs.Starting.{call_of}

-- A call of a core function with words is a further stack of a task, which runs.
abbrev pub started_on : ℕ → FuncRef → List ℕ → List PileView → Held → Done (Unit {0} × List PileView)
started_on t func words piles h =
    given (call_of h.store func words) (λ k. given (at_pile (stacked k) t piles) (λ r. Gives r (at_rest rest.Runs h)))
