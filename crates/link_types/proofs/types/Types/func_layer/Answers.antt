use Rattle.link_types.proofs.TypesMade.{func_more}
use Rattle.link_types.proofs.types.Types.func_layer.Goals as goal

pub returns-clause-ok : goal.returns-clause-ok
returns-clause-ok c =
    func_more c.args.self.now c.params.new.self c.layer.new.self c.args.params.now c.args.returned c.in_ok-params.params c.in_ok-number.number c.params.ensures.grows c.layer.ensures.grows c.in_ok-params.ensures.ok c.in_ok-number.ensures.ok
