use Rattle.abi_machine.proofs.sound.nexts.Turning.{worlds_go_on}
use Rattle.abi_machine.proofs.sound.Reached.{reached_stand, reached_go_on}
use Rattle.abi_machine.proofs.laws.worlds_go_on.Goals as goal

pub returns : goal.returns
returns c = record { each = worlds_go_on; stand = reached_stand; reached = reached_go_on }
