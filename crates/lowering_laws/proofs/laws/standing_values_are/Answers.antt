use Rattle.lowering_laws.proofs.LiftedValues.{standing_values_are, standing_lists_are, flattened_values_are}
use Rattle.lowering_laws.proofs.laws.standing_values_are.Goals as goal

pub returns : goal.returns
returns c = record { values = standing_values_are; lists = standing_lists_are; flat = flattened_values_are }
