use Rattle.run_laws.proofs.Elements.{elements_lead}
use Rattle.run_laws.proofs.running.elements_stand.Goals as goal

pub returns : goal.returns
returns c = elements_lead
