use Rattle.std.proofs.Common.{rules}
use Rattle.entry_gate.proofs.Changes.{leave_stands}
use Rattle.entry_gate.proofs.gate.Gate.leave.Goals as goal

pub returns-then-eq-clause-stands : goal.returns-then-eq-clause-stands
returns-then-eq-clause-stands c = leave_stands c.args.self.now _ c.args.task (search rules)

pub returns-else-eq-clause-stands : goal.returns-else-eq-clause-stands
returns-else-eq-clause-stands c = leave_stands c.args.self.now _ c.args.task (search rules)
