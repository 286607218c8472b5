use Rattle.standing.proofs.Going.{task_goes_on, acting_goes_on, task_ends}
use Rattle.standing.proofs.Taking.{call_is_taken}
use Rattle.standing.proofs.Leaving.{task_exits}
use Rattle.standing.proofs.Blocking.{task_yields}
use Rattle.standing.proofs.laws.tasks_agree.Goals as goal

pub returns : goal.returns
returns c = record { taken = call_is_taken; goes_on = task_goes_on; acting = acting_goes_on; ends = task_ends; exits = task_exits; yields = task_yields }
