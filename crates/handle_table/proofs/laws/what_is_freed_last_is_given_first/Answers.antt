use Rattle.handle_table.proofs.Freed.{latest_first}
use Rattle.handle_table.proofs.laws.what_is_freed_last_is_given_first.Goals as goal

pub returns : goal.returns
returns g c = latest_first
