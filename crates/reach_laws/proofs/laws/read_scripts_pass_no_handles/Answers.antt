use Rattle.reach_laws.proofs.ScriptsRead.{read_scripts_pass_small, read_scripts_pass_no_end}
use Rattle.reach_laws.proofs.laws.read_scripts_pass_no_handles.Goals as goal

pub returns : goal.returns
returns c = record { small = read_scripts_pass_small c.scripts_are_texts.ensures; ends = read_scripts_pass_no_end c.scripts_are_texts.ensures }
