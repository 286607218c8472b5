use Rattle.machine_examples.proofs.runs.LoopWaits.{loop_waits_shown}
use Rattle.machine_examples.proofs.runs.WaitWaits.{wait_waits_shown}
use Rattle.machine_examples.proofs.laws.sets_wait_for_their_waiters.Goals as goal

pub returns : goal.returns
returns c = record { in_loop = loop_waits_shown; in_wait = wait_waits_shown }
