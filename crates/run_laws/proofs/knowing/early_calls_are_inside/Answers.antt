use Rattle.run_laws.proofs.supplied.Early.{early_calls_are_inside}
use Rattle.run_laws.proofs.knowing.early_calls_are_inside.Goals as goal

pub returns : goal.returns
returns c = early_calls_are_inside
