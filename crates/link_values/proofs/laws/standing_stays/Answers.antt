use Rattle.link_values.proofs.NumbersTold.{still_there}
use Rattle.link_values.proofs.laws.standing_stays.Goals as goal

pub returns : goal.returns
returns c = still_there
