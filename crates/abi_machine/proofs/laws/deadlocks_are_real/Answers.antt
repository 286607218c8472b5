use Rattle.abi_machine.proofs.sound.Deadlocked.{deadlocks_are_real, reached_deadlocks_are_real}
use Rattle.abi_machine.proofs.laws.deadlocks_are_real.Goals as goal

pub returns : goal.returns
returns c = record { each = deadlocks_are_real; reached = reached_deadlocks_are_real }
