use Rattle.abi_machine.proofs.sound.KeptLent.{handles_stay_lent}
use Rattle.abi_machine.proofs.sound.LoansReached.{reached_stay_lent, reached_stay_over}
use Rattle.abi_machine.proofs.laws.handles_stay_lent.Goals as goal

pub returns : goal.returns
returns c = record { step = handles_stay_lent; reached = reached_stay_lent; over = reached_stay_over }
