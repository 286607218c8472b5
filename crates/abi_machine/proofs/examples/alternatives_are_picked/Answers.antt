use Rattle.abi_machine.proofs.runs.Chosen.{chosen_shown}
use Rattle.abi_machine.proofs.examples.alternatives_are_picked.Goals as goal

pub returns : goal.returns
returns c = chosen_shown
