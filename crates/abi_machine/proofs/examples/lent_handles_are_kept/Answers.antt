use Rattle.abi_machine.proofs.runs.DroppedLent.{dropped_lent_shown}
use Rattle.abi_machine.proofs.runs.GivenBack.{given_back_shown}
use Rattle.abi_machine.proofs.examples.lent_handles_are_kept.Goals as goal

pub returns : goal.returns
returns c = record { lent = dropped_lent_shown; given_back = given_back_shown }
