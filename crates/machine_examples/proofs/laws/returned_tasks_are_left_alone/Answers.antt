use Rattle.machine_examples.proofs.runs.LeftAlone.{left_alone_shown}
use Rattle.machine_examples.proofs.laws.returned_tasks_are_left_alone.Goals as goal

pub returns : goal.returns
returns c = left_alone_shown
