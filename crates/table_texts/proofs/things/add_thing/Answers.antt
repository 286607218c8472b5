-- An entry more.
use Rattle.std.proofs.Common.{◌^◌}
use Rattle.table_texts.specs.Things.{thing_view}
use Rattle.table_texts.proofs.Loans.{added_most}
use Rattle.table_texts.proofs.things.add_thing.Goals as goal

pub returns-in-Ok : goal.returns-in-Ok
returns-in-Ok c = added_most thing_view (2 ^ 63) c.args.table.now.slots c.add.new.self.slots c.args.thing c.in-Ok.ensures.exact.slots c.requires.entry c.requires.most
