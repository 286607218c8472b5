use Rattle.value_lift.proofs.Loaded.{lifted_values_stand}
use Rattle.value_lift.proofs.laws.lifted_values_stand.Goals as goal

pub returns : goal.returns
returns c = lifted_values_stand
