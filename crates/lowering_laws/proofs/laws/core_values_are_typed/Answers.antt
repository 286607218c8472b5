use Rattle.value_lower.specs.Following.{untabled}
use Rattle.lowering_laws.proofs.Followed.{lowered_are_typed, placed_are_typed}
use Rattle.lowering_laws.proofs.laws.core_values_are_typed.Goals as goal

pub returns : goal.returns
returns c s = record {
  flat = lowered_are_typed (untabled c.R.Room.memory c.R.Room.answers c.R.Room.wrote);
  placed = placed_are_typed (untabled c.R.Room.memory c.R.Room.answers c.R.Room.wrote);
}
