-- A handle is lent once more.
use Rattle.value_lift.proofs.Lends.{borrow_few}
use Rattle.value_lift.proofs.indices.borrow_at.Goals as goal

pub returns-in_err-push-in-Ok-clause-lends : goal.returns-in_err-push-in-Ok-clause-lends
returns-in_err-push-in-Ok-clause-lends g c =
    borrow_few g.E.Entry.view g.E.Entry.made g.met.E.Entry.made_is_seen c.args.handles.now.slots c.lift_borrow.new.table.slots c.args.index c.in-Ok.ensures.exact

pub returns-in_ok-push-in-Ok-clause-lends : goal.returns-in_ok-push-in-Ok-clause-lends
returns-in_ok-push-in-Ok-clause-lends g c =
    borrow_few g.E.Entry.view g.E.Entry.made g.met.E.Entry.made_is_seen c.args.handles.now.slots c.lift_borrow.new.table.slots c.args.index c.in-Ok.ensures.exact
