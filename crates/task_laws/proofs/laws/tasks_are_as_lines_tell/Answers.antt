use Rattle.task_laws.proofs.AsTold.{tasks_are_as_told}
use Rattle.task_laws.proofs.laws.tasks_are_as_lines_tell.Goals as goal

pub returns : goal.returns
returns c = tasks_are_as_told
