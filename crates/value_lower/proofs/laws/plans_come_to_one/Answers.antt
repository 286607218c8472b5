use Rattle.value_lower.proofs.Once.{plans_come_to_one}
use Rattle.value_lower.proofs.laws.plans_come_to_one.Goals as goal

pub returns : goal.returns
returns g c = plans_come_to_one g.R.Room.memory g.R.Room.answers g.R.Room.wrote
