use Rattle.standing.proofs.Changes.{first_stands}
use Rattle.standing.proofs.laws.first_stands.Goals as goal

pub returns : goal.returns
returns c = first_stands
