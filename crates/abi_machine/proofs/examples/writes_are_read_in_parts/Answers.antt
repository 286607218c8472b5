use Rattle.abi_machine.proofs.runs.Met.{met_shown}
use Rattle.abi_machine.proofs.examples.writes_are_read_in_parts.Goals as goal

pub returns : goal.returns
returns c = met_shown
