use Rattle.syntax_trees.proofs.Same.{differ}
use Rattle.syntax_trees.proofs.same_types.are_same.Goals as goal

pub returns-then-left-right : goal.returns-then-left-right
returns-then-left-right c = differ _ _ c.if-left-right.true
