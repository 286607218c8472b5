use Rattle.handle_table.proofs.Freed.{one_more}
use Rattle.handle_table.proofs.laws.else_one_more_is_given.Goals as goal

pub returns : goal.returns
returns g c = one_more
