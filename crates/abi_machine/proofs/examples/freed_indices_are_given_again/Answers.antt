use Rattle.abi_machine.proofs.runs.Reused.{reused_shown}
use Rattle.abi_machine.proofs.examples.freed_indices_are_given_again.Goals as goal

pub returns : goal.returns
returns c = reused_shown
