use Rattle.task_laws.proofs.AsTold.{none_is_left, deadlocks_name_left}
use Rattle.task_laws.proofs.laws.ends_name_tasks_left.Goals as goal

pub returns : goal.returns
returns c = record { done = none_is_left; deadlock = deadlocks_name_left }
