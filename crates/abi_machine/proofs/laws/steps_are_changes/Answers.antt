use Rattle.abi_machine.proofs.sound.Changing.{steps_are_changes}
use Rattle.abi_machine.proofs.laws.steps_are_changes.Goals as goal

pub returns : goal.returns
returns c = steps_are_changes
