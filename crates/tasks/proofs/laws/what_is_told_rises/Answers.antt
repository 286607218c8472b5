use Rattle.tasks.proofs.SubtaskRuns.{told_rises}
use Rattle.tasks.proofs.laws.what_is_told_rises.Goals as goal

pub returns : goal.returns
returns c = told_rises
