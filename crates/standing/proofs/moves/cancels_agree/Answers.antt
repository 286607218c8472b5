use Rattle.standing.proofs.Subtasked.{subtask_is_asked}
use Rattle.standing.proofs.moves.cancels_agree.Goals as goal

pub returns : goal.returns
returns c = subtask_is_asked
