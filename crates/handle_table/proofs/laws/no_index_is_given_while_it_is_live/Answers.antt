use Rattle.handle_table.proofs.Freed.{not_live}
use Rattle.handle_table.proofs.laws.no_index_is_given_while_it_is_live.Goals as goal

pub returns : goal.returns
returns g c = not_live
