use Rattle.value_lift.proofs.Faults.{one_is_lifted}
use Rattle.value_lift.proofs.laws.one_is_lifted.Goals as goal

pub returns : goal.returns
returns c = one_is_lifted
