use Rattle.future_ends.proofs.Stopping.{nothing_after_drop}
use Rattle.future_ends.proofs.laws.nothing_is_copied_after_a_drop.Goals as goal

pub returns : goal.returns
returns c = nothing_after_drop
