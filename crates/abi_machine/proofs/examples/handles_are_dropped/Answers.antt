use Rattle.abi_machine.proofs.runs.Made.{made_shown}
use Rattle.abi_machine.proofs.examples.handles_are_dropped.Goals as goal

pub returns : goal.returns
returns c = made_shown
