use Rattle.standing.proofs.Acting.{stacks_lead}
use Rattle.standing.proofs.runs.stacks_lead.Goals as goal

pub returns : goal.returns
returns c = stacks_lead
