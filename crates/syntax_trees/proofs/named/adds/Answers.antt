use Rattle.syntax_trees.proofs.Seen.{added}
use Rattle.syntax_trees.proofs.named.adds.Goals as goal

pub returns-clause-all : goal.returns-clause-all
returns-clause-all c = added _ _ _ c.in_ok-insert.ensures.updates
