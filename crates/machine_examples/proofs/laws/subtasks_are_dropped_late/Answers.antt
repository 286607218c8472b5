use Rattle.machine_examples.proofs.runs.DroppedEarly.{dropped_early_shown}
use Rattle.machine_examples.proofs.laws.subtasks_are_dropped_late.Goals as goal

pub returns : goal.returns
returns c = dropped_early_shown
