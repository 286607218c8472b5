use Rattle.run_laws.proofs.Results.{task_returns_result, task_ends_with_result}
use Rattle.run_laws.proofs.running.results_pass.Goals as goal

pub returns : goal.returns
returns c = record { returned = task_returns_result; ended = task_ends_with_result }
