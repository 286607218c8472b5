use Rattle.value_laws.proofs.Transport.{copies_transport}
use Rattle.value_laws.proofs.laws.elements_are_transported.Goals as goal

pub returns : goal.returns
returns g c = copies_transport g.E.Entry.view g.E.Entry.made g.E.Entry.made_end g.E.Entry.end_type g.met.E.Entry.made_is_seen
