use Rattle.abi_machine.proofs.runs.Awaited.{awaited_shown}
use Rattle.abi_machine.proofs.examples.subtasks_are_awaited.Goals as goal

pub returns : goal.returns
returns c = awaited_shown
