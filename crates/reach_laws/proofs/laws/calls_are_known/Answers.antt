use Rattle.reach_laws.proofs.known.Calling.{reached_calls_are_known}
use Rattle.reach_laws.proofs.laws.calls_are_known.Goals as goal

pub returns : goal.returns
returns c = reached_calls_are_known
