use Rattle.link_spec.proofs.Running.{graph_computed, fault_computed, linked_or_refused}
use Rattle.link_spec.proofs.laws.graphs_are_computed.Goals as goal

pub returns : goal.returns
returns c = record { graph = graph_computed; fault = fault_computed; one = linked_or_refused }
