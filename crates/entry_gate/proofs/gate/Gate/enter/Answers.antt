use Rattle.std.proofs.Common.{rules}
use Rattle.entry_gate.proofs.Changes.{enter_stands}
use Rattle.entry_gate.proofs.gate.Gate.enter.Goals as goal

pub returns-then-needs_entry-clause-stands : goal.returns-then-needs_entry-clause-stands
returns-then-needs_entry-clause-stands c = enter_stands c.args.self.now _ c.args.task c.args.kind (search rules)

pub returns-else-needs_entry-clause-stands : goal.returns-else-needs_entry-clause-stands
returns-else-needs_entry-clause-stands c = enter_stands c.args.self.now _ c.args.task c.args.kind (search rules)
