use Rattle.std.proofs.Common.{rules}
use Rattle.entry_gate.proofs.Changes.{unwait_stands}
use Rattle.entry_gate.proofs.gate.Gate.unwait.Goals as goal

pub returns-clause-stands : goal.returns-clause-stands
returns-clause-stands c = unwait_stands c.args.self.now _ c.requires (search rules)
