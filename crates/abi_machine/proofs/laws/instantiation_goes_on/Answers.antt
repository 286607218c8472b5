use Rattle.abi_machine.proofs.sound.typed.Starting.{starts_typed, started_typed, starts_go_on}
use Rattle.abi_machine.proofs.laws.instantiation_goes_on.Goals as goal

pub returns : goal.returns
returns c = record { typed = starts_typed; behind = started_typed; goes_on = starts_go_on }
