use Rattle.stream_ends.proofs.Keeping.{one_stands}
use Rattle.stream_ends.proofs.laws.one_offer_stands.Goals as goal

pub returns : goal.returns
returns c = one_stands
