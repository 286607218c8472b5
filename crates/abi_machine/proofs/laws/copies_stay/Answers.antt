use Rattle.abi_machine.proofs.sound.Copied.{first_is_copied, copies_stay}
use Rattle.abi_machine.proofs.laws.copies_stay.Goals as goal

pub returns : goal.returns
returns c = record { first = first_is_copied; stays = copies_stay }
