use Rattle.abi_machine.proofs.sound.AwaitingCopies.{first_awaits_copies, copies_stay_awaited}
use Rattle.abi_machine.proofs.sound.CopiesReached.{reached_await}
use Rattle.abi_machine.proofs.laws.copies_stay_awaited.Goals as goal

pub returns : goal.returns
returns c = record { first = first_awaits_copies; stays = copies_stay_awaited; reached = reached_await }
