use Rattle.value_laws.proofs.Lifted.{copies_fit}
use Rattle.value_laws.proofs.laws.copied_elements_fit.Goals as goal

pub returns : goal.returns
returns g c = copies_fit g.E.Entry.view g.E.Entry.made g.E.Entry.made_end g.E.Entry.end_type g.met.E.Entry.made_is_seen
