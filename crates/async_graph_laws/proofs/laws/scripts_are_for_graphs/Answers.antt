use Rattle.async_graph_laws.proofs.GraphsTyped.{linked_graphs_are_used}
use Rattle.async_graph_laws.proofs.ScriptsFor.{calls_are_for_graphs, read_scripts_are_for_graphs}
use Rattle.async_graph_laws.proofs.laws.scripts_are_for_graphs.Goals as goal

pub returns : goal.returns
returns c =
    let sound = c.graphs_are_sound.ensures in
    record { calls = calls_are_for_graphs; read = read_scripts_are_for_graphs (linked_graphs_are_used sound.lifts sound.made) c.scripts_call_exports.ensures }
