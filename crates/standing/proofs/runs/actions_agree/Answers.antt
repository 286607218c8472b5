use Rattle.standing.proofs.Instantiates.{action_is_done}
use Rattle.standing.proofs.runs.actions_agree.Goals as goal

pub returns : goal.returns
returns c = action_is_done
