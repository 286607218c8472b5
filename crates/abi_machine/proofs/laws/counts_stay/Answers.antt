use Rattle.abi_machine.proofs.sound.Counted.{first_adds_up, counts_stay}
use Rattle.abi_machine.proofs.laws.counts_stay.Goals as goal

pub returns : goal.returns
returns c = record { first = first_adds_up; stays = counts_stay }
