use Rattle.abi_machine.proofs.sound.Unborrowed.{first_holds_no_borrow, no_borrow_stays}
use Rattle.abi_machine.proofs.laws.no_borrow_is_passed.Goals as goal

pub returns : goal.returns
returns c = record { first = first_holds_no_borrow; stays = no_borrow_stays }
