use Rattle.async_graph_laws.proofs.ReadFits.{read_runs_fit}
use Rattle.async_graph_laws.proofs.laws.read_runs_fit.Goals as goal

pub returns : goal.returns
returns c =
    let plans = c.linked_plans_begin.ensures in
    read_runs_fit c.read_runs_are_runnable.ensures plans.begins plans.follow c.linked_graphs_pass_no_borrow.ensures c.read_scripts_pass_no_handles.ensures.ends
