use Rattle.async_graph_laws.proofs.ReadRuns.{read_runs_are_runnable}
use Rattle.async_graph_laws.proofs.laws.read_runs_are_runnable.Goals as goal

pub returns : goal.returns
returns c =
    let graphs = c.linked_graphs_are_typed.ensures in
    read_runs_are_runnable (record {
      apart = c.linked_definitions_are_apart.ensures;
      typed = graphs.read;
      stand = c.graphs_are_sound.ensures.modules;
      bytes = c.read_data_are_bytes.ensures;
      used = graphs.used;
      scripts = c.scripts_are_for_graphs.ensures.read;
      labels = c.read_types_are_labelled.ensures;
      in_range = c.read_scripts_pass_in_range.ensures;
      pass_typed = c.scripts_pass_typed.ensures;
    })
