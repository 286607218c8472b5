use Rattle.async_graph_laws.proofs.DefinitionsApart.{linked_definitions_are_apart}
use Rattle.async_graph_laws.proofs.laws.linked_definitions_are_apart.Goals as goal

pub returns : goal.returns
returns c = linked_definitions_are_apart
