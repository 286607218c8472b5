use Rattle.waitables.proofs.Histories.{in_at_most_one_set}
use Rattle.waitables.proofs.laws.a_waitable_is_in_at_most_one_set.Goals as goal

pub returns : goal.returns
returns c = in_at_most_one_set
