use Rattle.abi_machine.proofs.sound.Awaited.{first_has_subtasks, subtasks_stay}
use Rattle.abi_machine.proofs.laws.subtasks_stay.Goals as goal

pub returns : goal.returns
returns c = record { first = first_has_subtasks; stays = subtasks_stay }
