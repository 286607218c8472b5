use Rattle.abi_machine.proofs.runs.Crossed.{crossed_shown}
use Rattle.abi_machine.proofs.examples.streams_may_wait_for_each_other.Goals as goal

pub returns : goal.returns
returns c = crossed_shown
