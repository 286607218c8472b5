use Rattle.wcm.proofs.OnePipe.{one_pipe}
use Rattle.wcm.proofs.laws.one_pipe.Goals as goal

pub returns : goal.returns
returns c = one_pipe c.one_run.ensures.one
