use Rattle.abi_machine.proofs.runs.AtOnce.{at_once_shown}
use Rattle.abi_machine.proofs.examples.calls_return_at_once.Goals as goal

pub returns : goal.returns
returns c = at_once_shown
