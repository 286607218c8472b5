use Rattle.abi_machine.proofs.sound.Numbered.{first_numbered, stays_numbered}
use Rattle.abi_machine.proofs.laws.numbers_stay.Goals as goal

pub returns : goal.returns
returns c = record { first = first_numbered; stays = stays_numbered }
