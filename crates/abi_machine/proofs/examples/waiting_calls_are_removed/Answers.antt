use Rattle.abi_machine.proofs.runs.Removed.{removed_shown}
use Rattle.abi_machine.proofs.runs.Offered.{offered_shown}
use Rattle.abi_machine.proofs.examples.waiting_calls_are_removed.Goals as goal

pub returns : goal.returns
returns c = record { removed = removed_shown; kept = offered_shown }
