use Rattle.tasks.proofs.Runs.{no_borrow_once_resolved}
use Rattle.tasks.proofs.laws.a_resolved_task_has_no_borrow.Goals as goal

pub returns : goal.returns
returns c = no_borrow_once_resolved
