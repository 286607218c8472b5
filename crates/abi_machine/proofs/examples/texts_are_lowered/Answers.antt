use Rattle.abi_machine.proofs.runs.Measured.{measured_shown}
use Rattle.abi_machine.proofs.examples.texts_are_lowered.Goals as goal

pub returns : goal.returns
returns c = measured_shown
