use Rattle.std.proofs.Common.{rules}
use Rattle.entry_gate.proofs.Changes.{wait_stands}
use Rattle.entry_gate.proofs.gate.Gate.wait.Goals as goal

pub returns-clause-stands : goal.returns-clause-stands
returns-clause-stands c = wait_stands c.args.self.now _ (search rules)
