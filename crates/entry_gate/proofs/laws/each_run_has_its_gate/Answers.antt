use Rattle.entry_gate.proofs.Entering.{has_gate}
use Rattle.entry_gate.proofs.laws.each_run_has_its_gate.Goals as goal

pub returns : goal.returns
returns c = has_gate
