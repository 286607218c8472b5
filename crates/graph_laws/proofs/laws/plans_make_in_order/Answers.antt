use Rattle.graph_laws.proofs.GraphsApart.{plans_make_in_order}
use Rattle.graph_laws.proofs.laws.plans_make_in_order.Goals as goal

pub returns : goal.returns
returns c = plans_make_in_order
