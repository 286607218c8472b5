use Rattle.run_laws.proofs.Calls.{call_agrees}
use Rattle.run_laws.proofs.dispatch.calls_agree.Goals as goal

pub returns : goal.returns
returns c = call_agrees
