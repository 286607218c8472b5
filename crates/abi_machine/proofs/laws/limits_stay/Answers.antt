use Rattle.abi_machine.proofs.sound.Limited.{first_within_limits, stays_within_limits}
use Rattle.abi_machine.proofs.laws.limits_stay.Goals as goal

pub returns : goal.returns
returns c = record { first = first_within_limits; stays = stays_within_limits }
