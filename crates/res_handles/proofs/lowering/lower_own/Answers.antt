use Rattle.std.proofs.Common.{rules}
use Rattle.res_handles.proofs.Standing.{lowers_own_run}
use Rattle.res_handles.proofs.lowering.lower_own.Goals as goal

pub returns-clause-run : goal.returns-clause-run
returns-clause-run g c = lowers_own_run g.E.Entry.view g.E.Entry.made g.met.E.Entry.made_is_seen c.args.table.now c.add.new.table c.add.result c.args.resource c.args.rep (search rules)
