use Rattle.link_types.proofs.TypesMade.{finished}
use Rattle.link_types.proofs.maker.InstanceTypeMaker.finish.Goals as goal

pub returns-clause-ok : goal.returns-clause-ok
returns-clause-ok c = finished c.args.types.now c.instance_number.new.self c.args.self c.in_ok-number.number c.instance_number.ensures.grows c.in_ok-number.ensures.ok
