-- An own handle leaves the table.
use Rattle.value_lift.proofs.Lends.{leaves_few}
use Rattle.value_lift.proofs.indices.own_at.Goals as goal

pub returns-in-Ok-clause-lends : goal.returns-in-Ok-clause-lends
returns-in-Ok-clause-lends g c = leaves_few g.E.Entry.view c.args.handles.now.slots c.lift_own.new.table.slots c.args.index c.in-Ok.ensures.exact
