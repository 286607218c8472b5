use Rattle.entry_gate.proofs.Entering.{at_most_one}
use Rattle.entry_gate.proofs.laws.at_most_one_task_holds.Goals as goal

pub returns : goal.returns
returns c = at_most_one
