use Rattle.abi_machine.proofs.sound.Taking.{first_calls_have_tasks, calls_keep_tasks}
use Rattle.abi_machine.proofs.laws.calls_have_tasks.Goals as goal

pub returns : goal.returns
returns c = record { first = first_calls_have_tasks; stays = calls_keep_tasks }
