use Rattle.abi_machine.proofs.runs.Doubled.{doubled_shown}
use Rattle.abi_machine.proofs.examples.calls_are_waited_for.Goals as goal

pub returns : goal.returns
returns c = doubled_shown
