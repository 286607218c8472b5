use Rattle.abi_machine.proofs.runs.Sunk.{sunk_shown}
use Rattle.abi_machine.proofs.examples.drops_do_not_come_back.Goals as goal

pub returns : goal.returns
returns c = sunk_shown
