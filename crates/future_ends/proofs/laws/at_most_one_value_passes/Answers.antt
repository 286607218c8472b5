use Rattle.future_ends.proofs.Stopping.{at_most_one}
use Rattle.future_ends.proofs.laws.at_most_one_value_passes.Goals as goal

pub returns : goal.returns
returns c = at_most_one
