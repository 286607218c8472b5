use Rattle.run_laws.proofs.Runs.{run_steps_agree}
use Rattle.run_laws.proofs.running.run_steps_agree.Goals as goal

pub returns : goal.returns
returns c = run_steps_agree
