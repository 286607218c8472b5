use Rattle.run_laws.proofs.Steps.{step_is_made}
use Rattle.run_laws.proofs.stepping.steps_are_made.Goals as goal

pub returns : goal.returns
returns c = step_is_made
