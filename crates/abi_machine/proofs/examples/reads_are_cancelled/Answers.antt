use Rattle.abi_machine.proofs.runs.CancelledEmpty.{cancelled_empty_shown}
use Rattle.abi_machine.proofs.runs.CancelledBehind.{cancelled_behind_shown}
use Rattle.abi_machine.proofs.examples.reads_are_cancelled.Goals as goal

pub returns : goal.returns
returns c = record { before = cancelled_empty_shown; behind = cancelled_behind_shown }
