-- An entry less.
use Rattle.std.proofs.Common.{◌^◌}
use Rattle.table_texts.specs.Things.{thing_view}
use Rattle.table_texts.proofs.Loans.{remove_most}
use Rattle.table_texts.proofs.things.remove_thing.Goals as goal

pub returns : goal.returns
returns c = remove_most thing_view (2 ^ 63) c.args.table.now c.remove.new.self c.args.index c.remove.result c.remove.ensures.exact c.requires
