use Rattle.abi_machine.proofs.runs.HeldBack.{held_back_shown}
use Rattle.abi_machine.proofs.runs.LetIn.{let_in_shown}
use Rattle.abi_machine.proofs.examples.backpressure_holds_back.Goals as goal

pub returns : goal.returns
returns c = record { waits = held_back_shown; picked = let_in_shown }
