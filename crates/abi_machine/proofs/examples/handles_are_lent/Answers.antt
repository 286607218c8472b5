use Rattle.abi_machine.proofs.runs.LentOnce.{lent_once_shown}
use Rattle.abi_machine.proofs.examples.handles_are_lent.Goals as goal

pub returns : goal.returns
returns c = lent_once_shown
