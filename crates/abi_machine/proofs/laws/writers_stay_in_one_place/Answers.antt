use Rattle.abi_machine.proofs.sound.Alone.{first_has_writers, writers_stay}
use Rattle.abi_machine.proofs.laws.writers_stay_in_one_place.Goals as goal

pub returns : goal.returns
returns c = record { first = first_has_writers; stays = writers_stay }
