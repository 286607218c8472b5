use Rattle.lowering_laws.proofs.Standing.{placed_values_stand}
use Rattle.lowering_laws.proofs.laws.placed_values_stand.Goals as goal

pub returns : goal.returns
returns c = placed_values_stand
