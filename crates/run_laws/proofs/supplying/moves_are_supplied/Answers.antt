use Rattle.run_laws.proofs.supplied.All.{moves_are_supplied}
use Rattle.run_laws.proofs.supplying.moves_are_supplied.Goals as goal

pub returns : goal.returns
returns c = moves_are_supplied
