-- The names so far.
use Rattle.std.proofs.Common.{◌≡◌, ℕ, List, map, take, Bor}
use Rattle.laid_types.proofs.trees.names.Given as goal

abbrev pub invariant-loop-label : goal.invariant-loop-label
invariant-loop-label l = l.names ≡ map (λ (t : Bor (List ℕ)). t.now) (take l.label-index l.labels)
