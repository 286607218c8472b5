use Rattle.wcm.proofs.Traced.{trace_is_front}
use Rattle.wcm.proofs.laws.traces_are_fronts.Goals as goal

pub returns : goal.returns
returns c = trace_is_front c.one_run.ensures.one
