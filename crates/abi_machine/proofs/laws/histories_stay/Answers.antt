use Rattle.abi_machine.proofs.sound.Histories.{first_has_histories, histories_stay}
use Rattle.abi_machine.proofs.laws.histories_stay.Goals as goal

pub returns : goal.returns
returns c = record { first = first_has_histories; stays = histories_stay }
