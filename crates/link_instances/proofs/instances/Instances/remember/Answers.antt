use Rattle.link_instances.proofs.Turns.{known_at}
use Rattle.link_instances.proofs.instances.Instances.remember.Goals as goal

pub returns-in_err-know-clause-instances : goal.returns-in_err-know-clause-instances
returns-in_err-know-clause-instances c = λ t w h k. c.know.ensures.are t w h (known_at t w c.args.walk.now.agrees c.args.pair c.if-walk.true k)

pub returns-then-walk-clause-instances : goal.returns-then-walk-clause-instances
returns-then-walk-clause-instances c = λ t w h k. c.know.ensures.are t w h (known_at t w c.args.walk.now.agrees c.args.pair c.if-walk.true k)
