use Rattle.abi_machine.proofs.runs.NoMore.{no_more_shown}
use Rattle.abi_machine.proofs.examples.tables_get_full.Goals as goal

pub returns : goal.returns
returns c = no_more_shown
