use Rattle.tasks.proofs.SubtaskRuns.{lends_end}
use Rattle.tasks.proofs.laws.lends_end_with_the_last_state.Goals as goal

pub returns : goal.returns
returns c = lends_end
