use Rattle.value_lower.specs.Following.{untabled}
use Rattle.lowering_laws.proofs.Followed.{stored_stand, lists_stand, placed_stand, lowered_stand}
use Rattle.lowering_laws.proofs.laws.lowered_values_stand.Goals as goal

pub returns : goal.returns
returns c s = record {
  stored = stored_stand (untabled c.R.Room.memory c.R.Room.answers c.R.Room.wrote);
  lists = lists_stand (untabled c.R.Room.memory c.R.Room.answers c.R.Room.wrote);
  placed = placed_stand (untabled c.R.Room.memory c.R.Room.answers c.R.Room.wrote);
  flat = lowered_stand (untabled c.R.Room.memory c.R.Room.answers c.R.Room.wrote);
}
