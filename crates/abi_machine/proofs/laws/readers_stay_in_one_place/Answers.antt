use Rattle.abi_machine.proofs.sound.ends.Places.{first_has_readers, readers_stay}
use Rattle.abi_machine.proofs.laws.readers_stay_in_one_place.Goals as goal

pub returns : goal.returns
returns c = record { first = first_has_readers; stays = readers_stay }
