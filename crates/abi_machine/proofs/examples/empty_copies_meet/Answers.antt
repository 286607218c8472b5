use Rattle.abi_machine.proofs.runs.NothingWritten.{nothing_written_shown}
use Rattle.abi_machine.proofs.runs.MetEmpty.{met_empty_shown}
use Rattle.abi_machine.proofs.runs.NothingRead.{nothing_read_shown}
use Rattle.abi_machine.proofs.examples.empty_copies_meet.Goals as goal

pub returns : goal.returns
returns c = record { displaced = nothing_written_shown; completed = met_empty_shown; left_alone = nothing_read_shown }
