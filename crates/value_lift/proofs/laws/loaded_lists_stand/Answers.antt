use Rattle.value_lift.proofs.Loaded.{loaded_lists_stand}
use Rattle.value_lift.proofs.laws.loaded_lists_stand.Goals as goal

pub returns : goal.returns
returns c = loaded_lists_stand
