use Rattle.future_ends.proofs.Keeping.{one_stands}
use Rattle.future_ends.proofs.laws.one_offer_stands.Goals as goal

pub returns : goal.returns
returns c = one_stands
