use Rattle.run_laws.proofs.Destructors.{destructor_enters, destructor_ends}
use Rattle.run_laws.proofs.stepping.destructors_pass.Goals as goal

pub returns : goal.returns
returns c = record { enters = destructor_enters; ends = destructor_ends }
