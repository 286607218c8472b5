use Rattle.abi_machine.proofs.sound.Callers.{first_by_canons, by_canons_stay}
use Rattle.abi_machine.proofs.laws.by_canons_stay.Goals as goal

pub returns : goal.returns
returns c = record { first = first_by_canons; stays = by_canons_stay }
