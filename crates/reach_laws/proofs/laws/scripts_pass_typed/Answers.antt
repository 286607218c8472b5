use Rattle.reach_laws.proofs.ScriptsTyped.{scripts_pass_typed}
use Rattle.reach_laws.proofs.laws.scripts_pass_typed.Goals as goal

pub returns : goal.returns
returns c = scripts_pass_typed
