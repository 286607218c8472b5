use Rattle.abi_machine.proofs.runs.DroppedBehind.{dropped_behind_shown}
use Rattle.abi_machine.proofs.examples.writes_hear_of_drops.Goals as goal

pub returns : goal.returns
returns c = dropped_behind_shown
