use Rattle.lowering_laws.proofs.Fitted.{fitting_values_are}
use Rattle.lowering_laws.proofs.laws.fitting_values_are.Goals as goal

pub returns : goal.returns
returns c = fitting_values_are
