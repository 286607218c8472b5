use Rattle.standing.proofs.Begun.{call_is_begun}
use Rattle.standing.proofs.moves.calls_agree.Goals as goal

pub returns : goal.returns
returns c = call_is_begun
