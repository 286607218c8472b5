use Rattle.run_laws.proofs.Passings.{passes_lead}
use Rattle.run_laws.proofs.stepping.passings_lead.Goals as goal

pub returns : goal.returns
returns c = passes_lead
