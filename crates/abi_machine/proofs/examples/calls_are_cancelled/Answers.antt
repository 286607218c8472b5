use Rattle.abi_machine.proofs.runs.CancelledTwice.{cancelled_twice_shown}
use Rattle.abi_machine.proofs.examples.calls_are_cancelled.Goals as goal

pub returns : goal.returns
returns c = cancelled_twice_shown
