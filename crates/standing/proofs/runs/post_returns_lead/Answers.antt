use Rattle.standing.proofs.PostReturns.{nested_go_on, nested_code_leads, post_returns_lead}
use Rattle.standing.proofs.runs.post_returns_lead.Goals as goal

pub returns : goal.returns
returns c = record { goes_on = nested_go_on; nested = nested_code_leads; task = post_returns_lead }
