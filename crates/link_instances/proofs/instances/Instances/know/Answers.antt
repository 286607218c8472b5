use Rattle.link_instances.specs.Pairs.{IsKnown}
use Rattle.link_instances.proofs.PairOrder.{more_or_same}
use Rattle.link_instances.proofs.instances.Instances.know.Goals as goal

pub returns-clause-are : goal.returns-clause-are
returns-clause-are c = λ t w h k. record {
  bases = h.bases;
  known = more_or_same (IsKnown t w) c.args.self.now.known c.add.new.pairs c.args.pair c.add.result c.add.ensures.ok c.add.ensures.err h.known k;
  of_types = h.of_types;
}
