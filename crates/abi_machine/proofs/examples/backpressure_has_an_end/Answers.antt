use Rattle.abi_machine.proofs.runs.LetTooFar.{let_too_far_shown}
use Rattle.abi_machine.proofs.examples.backpressure_has_an_end.Goals as goal

pub returns : goal.returns
returns c = let_too_far_shown
