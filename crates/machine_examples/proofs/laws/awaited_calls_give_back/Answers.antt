use Rattle.machine_examples.proofs.runs.Lent.{lent_shown}
use Rattle.machine_examples.proofs.laws.awaited_calls_give_back.Goals as goal

pub returns : goal.returns
returns c = lent_shown
