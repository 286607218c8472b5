use Rattle.machine_examples.proofs.runs.CameLate.{came_late_shown}
use Rattle.machine_examples.proofs.laws.exited_callers_are_not_called_back.Goals as goal

pub returns : goal.returns
returns c = came_late_shown
