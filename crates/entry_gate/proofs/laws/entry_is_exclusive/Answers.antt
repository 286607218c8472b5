use Rattle.entry_gate.proofs.Entering.{exclusive}
use Rattle.entry_gate.proofs.laws.entry_is_exclusive.Goals as goal

pub returns : goal.returns
returns c = exclusive
