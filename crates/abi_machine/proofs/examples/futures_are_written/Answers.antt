use Rattle.abi_machine.proofs.runs.Broken.{broken_shown}
use Rattle.abi_machine.proofs.runs.ToldOfDrop.{told_of_drop_shown}
use Rattle.abi_machine.proofs.examples.futures_are_written.Goals as goal

pub returns : goal.returns
returns c = record { unwritten = broken_shown; told = told_of_drop_shown }
