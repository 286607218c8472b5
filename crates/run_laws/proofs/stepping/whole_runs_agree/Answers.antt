-- Whole runs agree.
use Rattle.run_laws.proofs.Whole.{whole_runs_agree, programs_agree}
use Rattle.run_laws.proofs.stepping.whole_runs_agree.Goals as goal

pub returns : goal.returns
returns c = record { agree = whole_runs_agree; one = programs_agree }
