use Rattle.link_spec.proofs.DistinctNames.{root_names_are_distinct, names_are_distinct}
use Rattle.link_spec.proofs.laws.names_are_distinct.Goals as goal

pub returns : goal.returns
returns c = record { root = root_names_are_distinct; all = names_are_distinct }
