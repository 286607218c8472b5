-- The lists are the same where what is left of them is.
use Rattle.std.proofs.Common.{◌≡◌, drop}
use Rattle.syntax_trees.specs.SameTypes.{same_types}
use Rattle.syntax_trees.proofs.same_types.are_same.Given as goal

abbrev pub invariant-loop-at : goal.invariant-loop-at
invariant-loop-at l = same_types l.left l.right ≡ same_types (drop l.at l.left) (drop l.at l.right)
