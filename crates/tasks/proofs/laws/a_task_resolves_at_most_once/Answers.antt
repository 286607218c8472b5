use Rattle.tasks.proofs.Runs.{at_most_once}
use Rattle.tasks.proofs.laws.a_task_resolves_at_most_once.Goals as goal

pub returns : goal.returns
returns c = at_most_once
