use Rattle.abi_machine.proofs.sound.Lent.{first_holds_loans, loans_stay}
use Rattle.abi_machine.proofs.sound.LoansReached.{reached_hold_loans}
use Rattle.abi_machine.proofs.laws.loans_stay.Goals as goal

pub returns : goal.returns
returns c = record { first = first_holds_loans; stays = loans_stay; reached = reached_hold_loans }
