use Rattle.handle_table.proofs.Freed.{few_live}
use Rattle.handle_table.proofs.laws.at_most_65535_are_live.Goals as goal

pub returns : goal.returns
returns g c = few_live
