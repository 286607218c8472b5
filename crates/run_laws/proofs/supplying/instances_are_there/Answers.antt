use Rattle.run_laws.proofs.supplied.Begun.{instances_there, canons_inside}
use Rattle.run_laws.proofs.supplying.instances_are_there.Goals as goal

pub returns : goal.returns
returns c = record { functions = instances_there; canons = canons_inside }
