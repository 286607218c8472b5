use Rattle.standing.proofs.Backed.{back_from_a_call, back_from_a_cancel}
use Rattle.standing.proofs.moves.returns_agree.Goals as goal

pub returns : goal.returns
returns c = record { called = back_from_a_call; cancelled = back_from_a_cancel }
