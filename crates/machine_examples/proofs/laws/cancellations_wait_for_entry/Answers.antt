use Rattle.machine_examples.proofs.runs.ToldWhenFree.{told_when_free_shown}
use Rattle.machine_examples.proofs.runs.WaitEnded.{wait_ended_shown}
use Rattle.machine_examples.proofs.laws.cancellations_wait_for_entry.Goals as goal

pub returns : goal.returns
returns c = record { turns = told_when_free_shown; waits = wait_ended_shown }
