use Rattle.link_spec.proofs.Few.{few_instances, graphs_are_few}
use Rattle.link_spec.proofs.laws.instances_stay_few.Goals as goal

pub returns : goal.returns
returns c = record { items = few_instances; graph = graphs_are_few }
