use Rattle.laid_types.proofs.Growing.{entry_stands}
use Rattle.laid_types.proofs.types.LaidTypes.entry.Goals as goal

pub returns-clause-stands : goal.returns-clause-stands
returns-clause-stands c = entry_stands c.self.inside.entries.items c.args.number c.index.result.now c.args.self.now c.self.invariant c.self.view_is c.requires c.index.ensures
