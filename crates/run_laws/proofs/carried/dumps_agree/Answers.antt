use Rattle.run_laws.proofs.onward.Dumps.{dumps_agree}
use Rattle.run_laws.proofs.carried.dumps_agree.Goals as goal

pub returns : goal.returns
returns c = dumps_agree
