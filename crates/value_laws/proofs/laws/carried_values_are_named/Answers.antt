use Rattle.value_laws.proofs.Named.{carried_are_named}
use Rattle.value_laws.proofs.laws.carried_values_are_named.Goals as goal

pub returns : goal.returns
returns g c = carried_are_named g.E.Entry.view g.E.Entry.made g.E.Entry.made_end g.met.E.Entry.made_is_seen g.met.E.Entry.made_end_is_seen
