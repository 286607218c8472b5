use Rattle.abi_machine.proofs.sound.Passing.{first_holds_nothing, nothing_is_held}
use Rattle.abi_machine.proofs.laws.nothing_is_held.Goals as goal

pub returns : goal.returns
returns c = record { first = first_holds_nothing; stays = nothing_is_held }
