use Rattle.abi_machine.proofs.runs.Members.{members_shown}
use Rattle.abi_machine.proofs.runs.DroppedEmpty.{dropped_empty_shown}
use Rattle.abi_machine.proofs.runs.DroppedLeft.{dropped_left_shown}
use Rattle.abi_machine.proofs.examples.sets_are_dropped_empty.Goals as goal

pub returns : goal.returns
returns c = record { member = members_shown; empty = dropped_empty_shown; moved = dropped_left_shown }
