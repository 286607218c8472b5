use Rattle.abi_machine.proofs.sound.Ending.{ends_come_where}
use Rattle.abi_machine.proofs.laws.ends_have_causes.Goals as goal

pub returns : goal.returns
returns c = ends_come_where
