use Rattle.value_lift.proofs.Loaded.{loaded_values_stand}
use Rattle.value_lift.proofs.laws.loaded_values_stand.Goals as goal

pub returns : goal.returns
returns c = loaded_values_stand
