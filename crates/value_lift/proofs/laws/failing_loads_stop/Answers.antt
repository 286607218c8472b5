use Rattle.value_lift.proofs.Faults.{failing_loads_stop}
use Rattle.value_lift.proofs.laws.failing_loads_stop.Goals as goal

pub returns : goal.returns
returns c = failing_loads_stop
