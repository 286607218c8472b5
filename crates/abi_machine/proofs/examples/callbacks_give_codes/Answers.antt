use Rattle.abi_machine.proofs.runs.BadCode.{bad_code_shown}
use Rattle.abi_machine.proofs.runs.BadCodeLater.{bad_code_later_shown}
use Rattle.abi_machine.proofs.examples.callbacks_give_codes.Goals as goal

pub returns : goal.returns
returns c = record { first = bad_code_shown; later = bad_code_later_shown }
