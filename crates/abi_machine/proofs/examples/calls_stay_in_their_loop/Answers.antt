use Rattle.abi_machine.proofs.runs.Stayed.{stayed_shown}
use Rattle.abi_machine.proofs.examples.calls_stay_in_their_loop.Goals as goal

pub returns : goal.returns
returns c = stayed_shown
