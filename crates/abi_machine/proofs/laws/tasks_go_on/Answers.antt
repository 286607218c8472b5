use Rattle.abi_machine.proofs.sound.Stages.{tasks_go_on}
use Rattle.abi_machine.proofs.laws.tasks_go_on.Goals as goal

pub returns : goal.returns
returns c = tasks_go_on
