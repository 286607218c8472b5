use Rattle.value_lift.proofs.Faults.{failing_values_stop}
use Rattle.value_lift.proofs.laws.failing_values_stop.Goals as goal

pub returns : goal.returns
returns c = failing_values_stop
