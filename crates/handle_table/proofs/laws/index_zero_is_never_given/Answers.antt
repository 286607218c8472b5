use Rattle.handle_table.proofs.Freed.{not_zero}
use Rattle.handle_table.proofs.laws.index_zero_is_never_given.Goals as goal

pub returns : goal.returns
returns g c = not_zero
