use Rattle.run_laws.proofs.supplied.FirstMemories.{runnable_graphs_name_first}
use Rattle.run_laws.proofs.knowing.runnable_graphs_name_first.Goals as goal

pub returns : goal.returns
returns c = runnable_graphs_name_first
