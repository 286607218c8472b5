use Rattle.link_spec.specs.Examples.{root}
use Rattle.graph_laws.specs.Examples.{parent, both}
use Rattle.graph_laws.proofs.Samples.{both_linked, modules_are_sound}
use Rattle.async_graph_laws.proofs.examples.component_inside.Goals as goal

pub returns : goal.returns
returns c =
    let is_linked = (c.graphs_are_computed.ensures.graph (root parent) both).0 both_linked in
    record {
      apart = c.linked_definitions_are_apart.ensures (root parent) both is_linked;
      typed = c.linked_graphs_are_typed.ensures.typed (root parent) both (λ m stands. let sound = modules_are_sound m stands in (sound.typed, sound.in_range)) is_linked;
      used = c.linked_graphs_are_typed.ensures.used (root parent) both is_linked;
    }
