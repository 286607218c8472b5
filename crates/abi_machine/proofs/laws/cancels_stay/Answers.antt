use Rattle.abi_machine.proofs.sound.Cancelling.{first_has_cancels, cancels_stay}
use Rattle.abi_machine.proofs.laws.cancels_stay.Goals as goal

pub returns : goal.returns
returns c = record { first = first_has_cancels; stays = cancels_stay }
