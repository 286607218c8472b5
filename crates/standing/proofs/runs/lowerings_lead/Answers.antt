use Rattle.standing.proofs.Restacking.{lowered_stands}
use Rattle.standing.proofs.Lowers.{lowerings_lead}
use Rattle.standing.proofs.runs.lowerings_lead.Goals as goal

pub returns : goal.returns
returns c = record { leads = lowerings_lead; stands = lowered_stands }
