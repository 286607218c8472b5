use Rattle.lowering_laws.proofs.Ranged.{values_of_types_fit, values_of_types_are_in_range}
use Rattle.lowering_laws.proofs.laws.values_of_types_fit.Goals as goal

pub returns : goal.returns
returns c = record { fit = values_of_types_fit; all = values_of_types_are_in_range }
