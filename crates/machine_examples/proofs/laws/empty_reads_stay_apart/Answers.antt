use Rattle.machine_examples.proofs.runs.MetInside.{met_inside_shown}
use Rattle.machine_examples.proofs.laws.empty_reads_stay_apart.Goals as goal

pub returns : goal.returns
returns c = met_inside_shown
