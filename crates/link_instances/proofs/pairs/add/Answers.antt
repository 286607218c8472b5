use Rattle.link_instances.proofs.PairOrder.{inserted}
use Rattle.link_instances.proofs.pairs.add.Goals as goal

pub returns-clause-ok : goal.returns-clause-ok
returns-clause-ok c = inserted _ _ _ c.in_ok-insert.ensures.updates
