use Rattle.std.proofs.Common.{refl}
use Rattle.handle_table.proofs.Standing.{added_shows}
use Rattle.handle_table.proofs.table.Table.add_reserved.Goals as goal

pub returns-clause-stands : goal.returns-clause-stands
returns-clause-stands g c = added_shows c.args.self.now c.args.self.now c.place.new.self c.args.entry c.place.result refl c.place.ensures.exact
