use Rattle.abi_machine.proofs.sound.SetWaiting.{first_has_sets, sets_stay_there}
use Rattle.abi_machine.proofs.laws.set_waits_stay.Goals as goal

pub returns : goal.returns
returns c = record { first = first_has_sets; stays = sets_stay_there }
