use Rattle.abi_machine.proofs.runs.WaitedBehind.{waited_behind_shown}
use Rattle.abi_machine.proofs.examples.newcomers_wait_behind.Goals as goal

pub returns : goal.returns
returns c = waited_behind_shown
