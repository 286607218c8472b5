use Rattle.copy_engine.proofs.Stepping.{follows_by_steps}
use Rattle.copy_engine.proofs.laws.lowerings_are_steps.Goals as goal

pub returns : goal.returns
returns c = follows_by_steps
