use Rattle.standing.proofs.Resolved.{task_returns, task_cancels}
use Rattle.standing.proofs.Asked.{end_is_asked}
use Rattle.standing.proofs.moves.resolutions_agree.Goals as goal

pub returns : goal.returns
returns c = record { returned = task_returns; cancelled = task_cancels; asked = end_is_asked }
