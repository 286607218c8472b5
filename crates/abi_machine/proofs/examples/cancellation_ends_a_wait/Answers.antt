use Rattle.abi_machine.proofs.runs.CancelledInLoop.{cancelled_shown}
use Rattle.abi_machine.proofs.examples.cancellation_ends_a_wait.Goals as goal

pub returns : goal.returns
returns c = cancelled_shown
