use Rattle.waiting_laws.proofs.Deadlocked.{deadlocks_are_in_vain}
use Rattle.waiting_laws.proofs.laws.tasks_wait_in_vain.Goals as goal

pub returns : goal.returns
returns c = deadlocks_are_in_vain
