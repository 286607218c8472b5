use Rattle.value_lift.proofs.Loaded.{standing_values_are_lifted}
use Rattle.value_lift.proofs.laws.standing_values_are_lifted.Goals as goal

pub returns : goal.returns
returns c = standing_values_are_lifted
