use Rattle.abi_machine.proofs.sound.Owning.{first_is_own, own_stays}
use Rattle.abi_machine.proofs.laws.definitions_stay_apart.Goals as goal

pub returns : goal.returns
returns c = record { first = first_is_own; stays = own_stays }
