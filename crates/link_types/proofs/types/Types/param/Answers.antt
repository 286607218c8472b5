use Rattle.link_types.proofs.TypesMade.{param_more}
use Rattle.link_types.proofs.types.Types.param.Goals as goal

pub returns-clause-ok : goal.returns-clause-ok
returns-clause-ok c =
    param_more c.args.self.now c.name.new.self c.layer.new.self c.args.param.now c.in_ok-label.label c.args.others c.in_ok-number.number c.name.ensures.grows c.layer.ensures.grows c.in_ok-label.ensures.ok c.in_ok-number.ensures.ok
