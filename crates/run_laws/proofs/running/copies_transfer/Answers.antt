use Rattle.run_laws.proofs.Transfers.{copies_transfer}
use Rattle.run_laws.proofs.running.copies_transfer.Goals as goal

pub returns : goal.returns
returns c = copies_transfer
