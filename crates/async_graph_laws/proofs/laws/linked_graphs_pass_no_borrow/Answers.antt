use Rattle.async_graph_laws.proofs.Lending.{linked_graphs_pass_no_borrow}
use Rattle.async_graph_laws.proofs.laws.linked_graphs_pass_no_borrow.Goals as goal

pub returns : goal.returns
returns c = linked_graphs_pass_no_borrow c.graphs_are_sound.ensures.lending
