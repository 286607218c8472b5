-- The places so far.
use Rattle.std.proofs.Common.{◌≡◌, map, take}
use Rattle.laid_types.specs.Layers.{tree_at}
use Rattle.laid_types.proofs.trees.places.Given as goal

abbrev pub invariant-loop-number : goal.invariant-loop-number
invariant-loop-number l = l.places ≡ map (tree_at l.types) (take l.number-index l.numbers)
