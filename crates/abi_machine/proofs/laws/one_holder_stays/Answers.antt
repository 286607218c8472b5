use Rattle.abi_machine.proofs.sound.Held.{first_has_one_holder, one_holder_stays}
use Rattle.abi_machine.proofs.laws.one_holder_stays.Goals as goal

pub returns : goal.returns
returns c = record { first = first_has_one_holder; stays = one_holder_stays }
