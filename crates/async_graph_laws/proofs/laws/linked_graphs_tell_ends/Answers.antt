use Rattle.async_graph_laws.proofs.EndsTold.{linked_graphs_tell_ends}
use Rattle.async_graph_laws.proofs.laws.linked_graphs_tell_ends.Goals as goal

pub returns : goal.returns
returns c = linked_graphs_tell_ends
