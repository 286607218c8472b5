use Rattle.reach_laws.proofs.free.Ending.{free_steps_end}
use Rattle.reach_laws.proofs.laws.free_steps_end.Goals as goal

pub returns : goal.returns
returns c = free_steps_end
