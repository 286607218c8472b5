use Rattle.abi_machine.proofs.runs.TextsTaken.{texts_taken_shown}
use Rattle.abi_machine.proofs.examples.texts_are_copied.Goals as goal

pub returns : goal.returns
returns c = texts_taken_shown
