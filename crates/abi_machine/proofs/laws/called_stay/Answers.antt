use Rattle.abi_machine.proofs.sound.Calling.{first_has_called, called_stay, one_waits}
use Rattle.abi_machine.proofs.laws.called_stay.Goals as goal

pub returns : goal.returns
returns c = record { first = first_has_called; stays = called_stay; one = one_waits }
