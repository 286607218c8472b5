use Rattle.abi_machine.proofs.sound.Scripted.{items_are_there, scripts_go_on}
use Rattle.abi_machine.proofs.laws.scripts_are_there.Goals as goal

pub returns : goal.returns
returns c = record { items = items_are_there; goes_on = scripts_go_on }
