use Rattle.run_laws.proofs.Lowered.{lowers_at_leads}
use Rattle.run_laws.proofs.running.lowerings_stand.Goals as goal

pub returns : goal.returns
returns c = lowers_at_leads
