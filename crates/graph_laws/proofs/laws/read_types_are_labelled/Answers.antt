use Rattle.graph_laws.proofs.CountedGraphs.{read_types_are_labelled}
use Rattle.graph_laws.proofs.laws.read_types_are_labelled.Goals as goal

pub returns : goal.returns
returns c = read_types_are_labelled
