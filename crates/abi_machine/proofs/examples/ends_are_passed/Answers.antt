use Rattle.abi_machine.proofs.runs.BytesTaken.{bytes_taken_shown}
use Rattle.abi_machine.proofs.examples.ends_are_passed.Goals as goal

pub returns : goal.returns
returns c = bytes_taken_shown
