use Rattle.link_values.proofs.Numbered.{apart_in}
use Rattle.std.proofs.Common.{sym}
use Rattle.link_values.proofs.names.Names.find.Goals as goal

pub returns-clause-apart : goal.returns-clause-apart
returns-clause-apart c = apart_in _ _ _ c.self.invariant (sym c.self.view_is)
