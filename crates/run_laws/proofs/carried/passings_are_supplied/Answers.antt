use Rattle.run_laws.proofs.onward.Elements.{elements_supplied}
use Rattle.run_laws.proofs.onward.Returned.{returned_supplied}
use Rattle.run_laws.proofs.carried.passings_are_supplied.Goals as goal

pub returns : goal.returns
returns c = record { returned = returned_supplied; elements = elements_supplied }
