use Rattle.value_lower.proofs.OnceTabled.{tabled_come_to_one}
use Rattle.value_lower.proofs.laws.tabled_plans_come_to_one.Goals as goal

pub returns : goal.returns
returns g c = tabled_come_to_one g.R.Room.memory g.R.Room.answers g.R.Room.wrote g.E.Entry.made g.E.Entry.made_end
