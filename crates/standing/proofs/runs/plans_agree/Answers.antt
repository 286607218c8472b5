use Rattle.standing.proofs.Plans.{flat_agrees, placed_agrees, stored_agrees, elements_alike}
use Rattle.standing.proofs.runs.plans_agree.Goals as goal

pub returns : goal.returns
returns c = record { flat = flat_agrees; placed = placed_agrees; stored = stored_agrees; elements = elements_alike }
