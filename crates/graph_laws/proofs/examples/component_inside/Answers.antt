use Rattle.link_spec.specs.Examples.{root}
use Rattle.graph_laws.specs.Examples.{parent, both}
use Rattle.graph_laws.proofs.Samples.{both_linked, modules_are_sound}
use Rattle.graph_laws.proofs.examples.component_inside.Goals as goal

pub returns : goal.returns
returns c = record { linked = (c.graphs_are_computed.ensures.graph (root parent) both).0 both_linked; modules = modules_are_sound }
