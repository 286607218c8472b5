use Rattle.link_types.proofs.TypesMade.{closed_more}
use Rattle.link_types.proofs.labels.closed_params.Goals as goal

pub loop-param-preserved : goal.loop-param-preserved
loop-param-preserved c =
    closed_more c.args.values.now c.args.params.now c.loop-param.closed c.push.new.self c.loop-param.param-index _ c.in_ok-closed_param.field-0 c.loop-param.invariant c.loop-param-test.true c.in_ok-closed_param.ensures c.in_ok-push.ensures.ok
