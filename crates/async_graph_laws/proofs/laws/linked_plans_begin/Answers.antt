use Rattle.async_graph_laws.proofs.PlansBegin.{linked_instances_begin, linked_makes_follow}
use Rattle.async_graph_laws.proofs.laws.linked_plans_begin.Goals as goal

pub returns : goal.returns
returns c = record { begins = linked_instances_begin; follow = linked_makes_follow }
