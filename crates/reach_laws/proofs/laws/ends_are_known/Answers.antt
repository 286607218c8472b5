use Rattle.reach_laws.proofs.known.Ends.{reached_ends_are_known}
use Rattle.reach_laws.proofs.laws.ends_are_known.Goals as goal

pub returns : goal.returns
returns c = reached_ends_are_known
