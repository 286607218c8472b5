use Rattle.reach_laws.proofs.Told.{exactly_one_next, none_is_stuck}
use Rattle.reach_laws.proofs.laws.exactly_one_next.Goals as goal

pub returns : goal.returns
returns c = record { one = exactly_one_next; goes_on = none_is_stuck }
