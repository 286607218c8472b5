use Rattle.standing.proofs.InPlace.{exempt_calls_agree, nested_calls_agree}
use Rattle.standing.proofs.runs.calls_answered.Goals as goal

pub returns : goal.returns
returns c = record { exempt = exempt_calls_agree; nested = nested_calls_agree }
