use Rattle.std.proofs.Common.{rules}
use Rattle.entry_gate.proofs.Changes.{pause_stands}
use Rattle.entry_gate.proofs.gate.Gate.pause.Goals as goal

pub returns-clause-stands : goal.returns-clause-stands
returns-clause-stands c = pause_stands c.args.self.now _ c.args.task (search rules)
