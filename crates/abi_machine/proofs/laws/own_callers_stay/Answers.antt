use Rattle.abi_machine.proofs.sound.OwnCalling.{first_by_own, by_own_stay}
use Rattle.abi_machine.proofs.laws.own_callers_stay.Goals as goal

pub returns : goal.returns
returns c = record { first = first_by_own; stays = by_own_stay }
