use Rattle.machine_examples.proofs.Counted.{sets_counted}
use Rattle.machine_examples.proofs.laws.sets_are_counted.Goals as goal

pub returns : goal.returns
returns c = sets_counted
