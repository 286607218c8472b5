use Rattle.run_laws.proofs.Instantiation.{instantiation_agrees}
use Rattle.run_laws.proofs.running.instantiation_agrees.Goals as goal

pub returns : goal.returns
returns c = instantiation_agrees
