use Rattle.script_reader.proofs.OtherNumbers.{other_cancels_are_refused}
use Rattle.script_reader.proofs.laws.other_cancels_are_refused.Goals as goal

pub returns : goal.returns
returns c = other_cancels_are_refused
