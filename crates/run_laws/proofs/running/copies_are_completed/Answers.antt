use Rattle.run_laws.proofs.Completed.{copy_is_completed}
use Rattle.run_laws.proofs.running.copies_are_completed.Goals as goal

pub returns : goal.returns
returns c = copy_is_completed
