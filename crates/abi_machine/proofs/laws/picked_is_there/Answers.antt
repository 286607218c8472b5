use Rattle.abi_machine.proofs.sound.Picking.{first_is_picked, picked_stays}
use Rattle.abi_machine.proofs.laws.picked_is_there.Goals as goal

pub returns : goal.returns
returns c = record { first = first_is_picked; stays = picked_stays }
