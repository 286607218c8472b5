use Rattle.abi_machine.proofs.sound.Functions.{reached_functions, used_go_on}
use Rattle.abi_machine.proofs.laws.functions_are_there.Goals as goal

pub returns : goal.returns
returns c = record { there = reached_functions; goes_on = used_go_on }
