use Rattle.reach_laws.proofs.OneRun.{one_run_comes}
use Rattle.reach_laws.proofs.laws.one_run_comes.Goals as goal

pub returns : goal.returns
returns c = one_run_comes
