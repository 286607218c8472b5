use Rattle.run_laws.proofs.onward.Ended.{ended_supplied}
use Rattle.run_laws.proofs.carried.ends_are_supplied.Goals as goal

pub returns : goal.returns
returns c = ended_supplied c.reached_worlds_are_typed.ensures.worlds
