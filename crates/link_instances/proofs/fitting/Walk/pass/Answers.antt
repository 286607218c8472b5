use Rattle.link_instances.specs.Fitting.{IsPassed}
use Rattle.link_instances.proofs.PairOrder.{more_or_same}
use Rattle.link_instances.proofs.fitting.Walk.pass.Goals as goal

pub returns-clause-passed : goal.returns-clause-passed
returns-clause-passed c = λ t w all k.
    more_or_same (IsPassed t w c.args.self.now.agrees) c.args.self.now.passed c.add.new.pairs c.args.pair c.add.result c.add.ensures.ok c.add.ensures.err all k
