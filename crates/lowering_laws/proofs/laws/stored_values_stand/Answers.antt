use Rattle.lowering_laws.proofs.Standing.{stored_values_stand}
use Rattle.lowering_laws.proofs.laws.stored_values_stand.Goals as goal

pub returns : goal.returns
returns c = stored_values_stand
