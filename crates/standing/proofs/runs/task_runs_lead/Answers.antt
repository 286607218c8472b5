use Rattle.standing.proofs.TaskRuns.{task_runs_lead}
use Rattle.standing.proofs.runs.task_runs_lead.Goals as goal

pub returns : goal.returns
returns c = task_runs_lead
