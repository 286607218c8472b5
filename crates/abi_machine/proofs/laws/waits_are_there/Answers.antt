use Rattle.abi_machine.proofs.sound.Idle.{none_is_able, waits_are_there}
use Rattle.abi_machine.proofs.laws.waits_are_there.Goals as goal

pub returns : goal.returns
returns c = record { able = none_is_able; there = waits_are_there }
