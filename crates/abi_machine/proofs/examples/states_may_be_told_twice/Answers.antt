use Rattle.abi_machine.proofs.runs.Retold.{retold_shown}
use Rattle.abi_machine.proofs.examples.states_may_be_told_twice.Goals as goal

pub returns : goal.returns
returns c = retold_shown
