use Rattle.script_reader.proofs.Picks.{picks_are_a_line}
use Rattle.script_reader.proofs.laws.picks_are_a_line.Goals as goal

pub returns : goal.returns
returns c = picks_are_a_line
