use Rattle.task_laws.proofs.Numbers.{tasks_are_counted}
use Rattle.task_laws.proofs.laws.tasks_are_counted.Goals as goal

pub returns : goal.returns
returns c = tasks_are_counted
