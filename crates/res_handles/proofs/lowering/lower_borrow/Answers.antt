use Rattle.std.proofs.Common.{rules}
use Rattle.res_handles.proofs.Standing.{lowers_borrow_run}
use Rattle.res_handles.proofs.lowering.lower_borrow.Goals as goal

pub returns-clause-run : goal.returns-clause-run
returns-clause-run g c u = lowers_borrow_run g.E.Entry.view g.E.Entry.made g.met.E.Entry.made_is_seen c.args.table.now c.add.new.table c.add.result c.args.resource c.args.rep c.args.home.now.task (search rules)
