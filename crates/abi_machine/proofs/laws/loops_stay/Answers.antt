use Rattle.abi_machine.proofs.sound.Looping.{first_has_loops, loops_stay}
use Rattle.abi_machine.proofs.laws.loops_stay.Goals as goal

pub returns : goal.returns
returns c = record { first = first_has_loops; stays = loops_stay }
