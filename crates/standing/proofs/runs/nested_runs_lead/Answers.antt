use Rattle.standing.proofs.Nesting.{nested_runs_lead, calls_are_made}
use Rattle.standing.proofs.runs.nested_runs_lead.Goals as goal

pub returns : goal.returns
returns c = record { runs = nested_runs_lead; calls = calls_are_made }
