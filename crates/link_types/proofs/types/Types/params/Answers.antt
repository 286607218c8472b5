use Rattle.std.proofs.Common.{arith}
use Rattle.link_types.proofs.TypesGrow.{grows_trans}
use Rattle.link_types.proofs.TypesMade.{one_from}
use Rattle.link_types.proofs.types.Types.params.Goals as goal

pub loop-at-preserved : goal.loop-at-preserved
loop-at-preserved c =
    let so_far = c.loop-at.invariant in (
      omega arith,
      one_from c.args.self.now c.loop-at.self c.param.new.self c.args.params.now c.loop-at.at _ c.loop-at.others c.in_ok-others-2.others c.loop-at-test.true so_far.0 so_far.2 so_far.1 c.in_ok-others-2.ensures.ok,
      grows_trans c.args.self.now c.loop-at.self c.param.new.self so_far.2 c.in_ok-others-2.ensures.grows,
    )
