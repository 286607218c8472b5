use Rattle.script_reader.proofs.Numbers.{cancel_is_a_line}
use Rattle.script_reader.proofs.laws.cancel_is_a_line.Goals as goal

pub returns : goal.returns
returns c = cancel_is_a_line
