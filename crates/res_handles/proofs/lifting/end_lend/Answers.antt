use Rattle.std.proofs.Common.{rules, ◌-◌}
use Rattle.res_handles.proofs.Standing.{ends_lend_run, relent_stands}
use Rattle.res_handles.proofs.lifting.end_lend.Goals as goal

pub returns-clause-stands : goal.returns-clause-stands
returns-clause-stands g c = relent_stands g.E.Entry.view g.E.Entry.made (λ n. n - 1) c.args.table.now.slots c.relend.new.table.slots c.args.index (search rules)

pub returns-clause-run : goal.returns-clause-run
returns-clause-run g c =
    ends_lend_run g.E.Entry.view g.E.Entry.made g.met.E.Entry.made_is_seen c.args.table.now.slots c.relend.new.table.slots c.args.index c.requires (search rules)
