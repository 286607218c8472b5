use Rattle.choices.proofs.Turns.{in_turn}
use Rattle.choices.proofs.laws.picks_are_used_in_turn.Goals as goal

pub returns : goal.returns
returns c = in_turn
