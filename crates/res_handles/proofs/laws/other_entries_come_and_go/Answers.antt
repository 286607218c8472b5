use Rattle.res_handles.proofs.Standing.{others}
use Rattle.res_handles.proofs.laws.other_entries_come_and_go.Goals as goal

pub returns : goal.returns
returns g c = others g.E.Entry.view
