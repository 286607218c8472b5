use Rattle.machine_examples.proofs.runs.NotCancelled.{not_cancelled_shown}
use Rattle.machine_examples.proofs.laws.waited_copies_are_kept.Goals as goal

pub returns : goal.returns
returns c = not_cancelled_shown
