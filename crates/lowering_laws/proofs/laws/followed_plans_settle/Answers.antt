use Rattle.value_lower.specs.Following.{untabled}
use Rattle.lowering_laws.proofs.Followed.{followed_over, followed_settle}
use Rattle.lowering_laws.proofs.laws.followed_plans_settle.Goals as goal

pub returns : goal.returns
returns c s = record {
  over = followed_over (untabled c.R.Room.memory c.R.Room.answers c.R.Room.wrote);
  settle = followed_settle (untabled c.R.Room.memory c.R.Room.answers c.R.Room.wrote);
}
