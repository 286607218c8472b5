-- An end leaves the table.
use Rattle.value_lift.proofs.Lends.{leaves_few}
use Rattle.value_lift.proofs.indices.end_at.Goals as goal

pub returns-in_err-push-in-Ok-clause-lends : goal.returns-in_err-push-in-Ok-clause-lends
returns-in_err-push-in-Ok-clause-lends g c = leaves_few g.E.Entry.view c.args.handles.now.slots c.numbered_end.new.handles.slots c.args.index c.in-Ok.ensures.exact

pub returns-in_ok-push-in-Ok-clause-lends : goal.returns-in_ok-push-in-Ok-clause-lends
returns-in_ok-push-in-Ok-clause-lends g c = leaves_few g.E.Entry.view c.args.handles.now.slots c.numbered_end.new.handles.slots c.args.index c.in-Ok.ensures.exact
