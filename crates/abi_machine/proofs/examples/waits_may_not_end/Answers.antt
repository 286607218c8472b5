use Rattle.abi_machine.proofs.runs.Alone.{alone_shown}
use Rattle.abi_machine.proofs.examples.waits_may_not_end.Goals as goal

pub returns : goal.returns
returns c = alone_shown
