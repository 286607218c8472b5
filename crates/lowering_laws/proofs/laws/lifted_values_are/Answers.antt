use Rattle.lowering_laws.proofs.LiftedValues.{loaded_values_are, loaded_lists_are, lifted_values_are}
use Rattle.lowering_laws.proofs.laws.lifted_values_are.Goals as goal

pub returns : goal.returns
returns c = record { values = loaded_values_are; lists = loaded_lists_are; flat = lifted_values_are }
