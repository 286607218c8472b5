use Rattle.machine_examples.proofs.runs.LeftSet.{left_set_shown}
use Rattle.machine_examples.proofs.laws.dropped_ends_leave_their_set.Goals as goal

pub returns : goal.returns
returns c = left_set_shown
