use Rattle.std.proofs.Common.{rules}
use Rattle.res_handles.specs.Ends.{end_type_at}
use Rattle.res_handles.proofs.Standing.{lifts_end_run}
use Rattle.res_handles.proofs.ends.lift_end.Goals as goal

pub returns-clause-run : goal.returns-clause-run
returns-clause-run g c =
    lifts_end_run g.E.Entry.view c.args.table.now.slots c.remove.new.self.slots c.args.index (end_type_at g.E.Entry.end_type c.args.table.now.slots c.args.index) c.args.wanted.now c.in_ok-number.number (search rules) (search rules)
