use Rattle.standing.proofs.Arriving.{task_arrives}
use Rattle.standing.proofs.moves.arrivals_agree.Goals as goal

pub returns : goal.returns
returns c = task_arrives
