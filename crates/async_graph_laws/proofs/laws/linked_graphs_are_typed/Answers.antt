use Rattle.async_graph_laws.proofs.GraphsTyped.{linked_graphs_are_typed, read_graphs_are_typed, linked_graphs_are_used}
use Rattle.async_graph_laws.proofs.laws.linked_graphs_are_typed.Goals as goal

pub returns : goal.returns
returns c =
    let sound = c.graphs_are_sound.ensures in
    let typed = linked_graphs_are_typed sound.imported sound.modules in
    record {
      typed = typed;
      read = read_graphs_are_typed typed c.read_modules_are_typed.ensures;
      used = linked_graphs_are_used sound.lifts sound.made;
    }
