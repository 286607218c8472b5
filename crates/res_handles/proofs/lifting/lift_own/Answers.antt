use Rattle.std.proofs.Common.{rules}
use Rattle.res_handles.proofs.Standing.{lifts_own_run}
use Rattle.res_handles.proofs.lifting.lift_own.Goals as goal

pub returns-clause-run : goal.returns-clause-run
returns-clause-run g c = lifts_own_run g.E.Entry.view c.args.table.now.slots c.remove.new.self.slots c.args.index c.args.resource c.in_ok-handle.handle (search rules) (search rules)
