use Rattle.abi_machine.proofs.runs.MetInside.{met_inside_shown}
use Rattle.abi_machine.proofs.examples.texts_stay_apart.Goals as goal

pub returns : goal.returns
returns c = met_inside_shown
