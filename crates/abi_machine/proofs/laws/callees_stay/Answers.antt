use Rattle.abi_machine.proofs.sound.Callees.{first_has_callees, callees_stay, functions_are_there, destructors_are_there}
use Rattle.abi_machine.proofs.laws.callees_stay.Goals as goal

pub returns : goal.returns
returns c = record { first = first_has_callees; stays = callees_stay; functions = functions_are_there; destructors = destructors_are_there }
