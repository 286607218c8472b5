-- The names so far were seen, and none of them twice.
use Rattle.syntax_trees.proofs.Seen.{IsSeen}
use Rattle.ca_base.proofs.names.first_twice.Given as goal

abbrev pub invariant-loop-at : goal.invariant-loop-at
invariant-loop-at g l = IsSeen g.T.Named.name l.items l.at l.seen
