use Rattle.abi_machine.proofs.sound.Holding.{first_holds_copies, copies_stay_held}
use Rattle.abi_machine.proofs.laws.copies_stay_held.Goals as goal

pub returns : goal.returns
returns c = record { first = first_holds_copies; stays = copies_stay_held }
