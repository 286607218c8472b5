use Rattle.link_spec.proofs.Following.{one_graph, linked_is_not_refused, one_refusal}
use Rattle.link_spec.proofs.laws.components_have_one_graph.Goals as goal

pub returns : goal.returns
returns c = record { graph = one_graph; not_both = linked_is_not_refused; fault = one_refusal }
