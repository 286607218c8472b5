use Rattle.handle_table.proofs.Standing.{added_shows}
use Rattle.handle_table.proofs.table.Table.add.Goals as goal

pub returns-clause-stands : goal.returns-clause-stands
returns-clause-stands g c = added_shows c.args.self.now c.reserve.new.self c.place.new.self c.args.entry c.place.result c.reserve.ensures.exact c.place.ensures.exact
