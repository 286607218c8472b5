use Rattle.abi_machine.proofs.sound.Telling.{first_is_told, told_stays}
use Rattle.abi_machine.proofs.laws.told_states_stay.Goals as goal

pub returns : goal.returns
returns c = record { first = first_is_told; stays = told_stays }
