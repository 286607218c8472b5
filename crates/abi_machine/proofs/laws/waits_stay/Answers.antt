use Rattle.abi_machine.proofs.sound.Guests.{first_waits_as, waits_as_stay}
use Rattle.abi_machine.proofs.laws.waits_stay.Goals as goal

pub returns : goal.returns
returns c = record { first = first_waits_as; stays = waits_as_stay }
