use Rattle.script_reader.proofs.OtherNumbers.{other_fuel_is_refused}
use Rattle.script_reader.proofs.laws.other_fuel_is_refused.Goals as goal

pub returns : goal.returns
returns c = other_fuel_is_refused
