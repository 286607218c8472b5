use Rattle.abi_machine.proofs.runs.CameBack.{came_back_shown}
use Rattle.abi_machine.proofs.examples.calls_do_not_come_back.Goals as goal

pub returns : goal.returns
returns c = came_back_shown
