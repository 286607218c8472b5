use Rattle.machine_examples.proofs.runs.HeldAfter.{held_after_shown}
use Rattle.machine_examples.proofs.laws.post_returns_stay_inside.Goals as goal

pub returns : goal.returns
returns c = held_after_shown
