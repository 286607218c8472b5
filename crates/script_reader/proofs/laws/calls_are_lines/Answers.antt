use Rattle.script_reader.proofs.CallLines.{calls_are_lines}
use Rattle.script_reader.proofs.laws.calls_are_lines.Goals as goal

pub returns : goal.returns
returns c = calls_are_lines
