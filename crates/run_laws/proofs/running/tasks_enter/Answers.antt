use Rattle.run_laws.proofs.Entered.{task_enters}
use Rattle.run_laws.proofs.running.tasks_enter.Goals as goal

pub returns : goal.returns
returns c = task_enters
