-- The map has the first item of each name so far.
use Rattle.syntax_trees.proofs.FirstNamed.{IsIndex}
use Rattle.ca_base.proofs.names.by_name.Given as goal

abbrev pub invariant-loop-at : goal.invariant-loop-at
invariant-loop-at g l = IsIndex g.T.Named.name l.items l.at l.map
