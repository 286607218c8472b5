use Rattle.abi_machine.proofs.runs.KeptFuture.{kept_shown}
use Rattle.abi_machine.proofs.runs.ReadTwice.{read_twice_shown}
use Rattle.abi_machine.proofs.examples.futures_are_read_once.Goals as goal

pub returns : goal.returns
returns c = record { kept = kept_shown; twice = read_twice_shown }
