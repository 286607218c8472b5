use Rattle.machine_examples.proofs.runs.ToldNext.{told_next_shown}
use Rattle.machine_examples.proofs.laws.synchronous_tasks_are_told_next.Goals as goal

pub returns : goal.returns
returns c = told_next_shown
