use Rattle.std.proofs.Common.{rules}
use Rattle.entry_gate.proofs.Changes.{take_back_stands}
use Rattle.entry_gate.proofs.gate.Gate.take_back.Goals as goal

pub returns-clause-stands : goal.returns-clause-stands
returns-clause-stands c = take_back_stands c.args.self.now _ c.args.task (search rules)
