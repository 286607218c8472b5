use Rattle.abi_machine.proofs.runs.CancelledRead.{cancelled_read_shown}
use Rattle.abi_machine.proofs.examples.future_reads_are_cancelled.Goals as goal

pub returns : goal.returns
returns c = cancelled_read_shown
