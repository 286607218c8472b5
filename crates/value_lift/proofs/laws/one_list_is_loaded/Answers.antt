use Rattle.value_lift.proofs.Faults.{one_list_is_loaded}
use Rattle.value_lift.proofs.laws.one_list_is_loaded.Goals as goal

pub returns : goal.returns
returns c = one_list_is_loaded
