use Rattle.abi_machine.proofs.runs.EnteredLate.{entered_late_shown}
use Rattle.abi_machine.proofs.examples.calls_wait_to_enter.Goals as goal

pub returns : goal.returns
returns c = entered_late_shown
