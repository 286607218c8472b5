use Rattle.handle_table.proofs.Writes.{writes_after}
use Rattle.handle_table.proofs.laws.writes_stand.Goals as goal

pub returns : goal.returns
returns g c = writes_after
