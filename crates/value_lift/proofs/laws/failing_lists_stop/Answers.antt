use Rattle.value_lift.proofs.Faults.{failing_lists_stop}
use Rattle.value_lift.proofs.laws.failing_lists_stop.Goals as goal

pub returns : goal.returns
returns c = failing_lists_stop
