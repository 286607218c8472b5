use Rattle.graph_laws.proofs.ScriptsInRange.{read_scripts_pass_in_range}
use Rattle.graph_laws.proofs.laws.read_scripts_pass_in_range.Goals as goal

pub returns : goal.returns
returns c = read_scripts_pass_in_range c.scripts_are_texts.ensures
