use Rattle.abi_machine.proofs.sound.Ordered.{first_ordered, order_stays, traps_name_the_acting_task}
use Rattle.abi_machine.proofs.laws.tasks_stay_ordered.Goals as goal

pub returns : goal.returns
returns c = record { first = first_ordered; stays = order_stays; traps = traps_name_the_acting_task }
