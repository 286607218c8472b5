use Rattle.abi_machine.proofs.runs.LentThenGiven.{lent_then_given_shown}
use Rattle.abi_machine.proofs.runs.GivenThenLent.{given_then_lent_shown}
use Rattle.abi_machine.proofs.examples.handles_are_lent_or_given.Goals as goal

pub returns : goal.returns
returns c = record { lent_first = lent_then_given_shown; given_first = given_then_lent_shown }
