use Rattle.run_laws.proofs.onward.Programs.{programs_pass}
use Rattle.run_laws.proofs.carried.programs_pass.Goals as goal

pub returns : goal.returns
returns c = programs_pass
