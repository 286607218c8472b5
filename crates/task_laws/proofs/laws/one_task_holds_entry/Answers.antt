use Rattle.task_laws.proofs.Holding.{reached_have_one_holder}
use Rattle.task_laws.proofs.laws.one_task_holds_entry.Goals as goal

pub returns : goal.returns
returns c = reached_have_one_holder
