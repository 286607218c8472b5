use Rattle.reach_laws.proofs.Told.{starts_typed, reached_are_typed}
use Rattle.reach_laws.proofs.laws.reached_worlds_are_typed.Goals as goal

pub returns : goal.returns
returns c = record { starts = starts_typed; worlds = reached_are_typed }
