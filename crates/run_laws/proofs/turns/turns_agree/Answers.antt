use Rattle.run_laws.proofs.Chosen.{turns_agree}
use Rattle.run_laws.proofs.turns.turns_agree.Goals as goal

pub returns : goal.returns
returns c = turns_agree
