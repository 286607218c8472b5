use Rattle.script_reader.proofs.Picks.{other_picks_are_refused}
use Rattle.script_reader.proofs.laws.other_picks_are_refused.Goals as goal

pub returns : goal.returns
returns c = other_picks_are_refused
