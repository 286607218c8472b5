use Rattle.abi_machine.proofs.runs.KeptBorrow.{kept_borrow_shown}
use Rattle.abi_machine.proofs.examples.borrows_end_before_tasks.Goals as goal

pub returns : goal.returns
returns c = kept_borrow_shown
