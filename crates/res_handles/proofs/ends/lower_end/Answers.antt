use Rattle.std.proofs.Common.{rules}
use Rattle.res_handles.proofs.Standing.{lowers_end_run}
use Rattle.res_handles.proofs.ends.lower_end.Goals as goal

pub returns-in-Ok-clause-run : goal.returns-in-Ok-clause-run
returns-in-Ok-clause-run g c =
    lowers_end_run g.E.Entry.view (g.E.Entry.made_end c.args.end_type.now c.args.number) c.args.number (g.met.E.Entry.made_end_is_seen c.args.end_type.now c.args.number) c.args.table.now c.add.new.table c.add.result (search rules)
