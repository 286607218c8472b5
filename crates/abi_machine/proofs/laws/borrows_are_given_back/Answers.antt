use Rattle.abi_machine.proofs.sound.Borrowed.{borrows_are_given_back}
use Rattle.abi_machine.proofs.laws.borrows_are_given_back.Goals as goal

pub returns : goal.returns
returns c = borrows_are_given_back
