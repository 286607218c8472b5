use Rattle.machine_examples.proofs.runs.NothingNew.{nothing_new_shown}
use Rattle.machine_examples.proofs.laws.calls_are_not_told_twice.Goals as goal

pub returns : goal.returns
returns c = nothing_new_shown
