use Rattle.machine_examples.proofs.runs.ToldFirst.{told_first_shown}
use Rattle.machine_examples.proofs.laws.cancellations_are_told_first.Goals as goal

pub returns : goal.returns
returns c = told_first_shown
