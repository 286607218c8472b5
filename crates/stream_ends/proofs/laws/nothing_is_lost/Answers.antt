use Rattle.stream_ends.proofs.Counting.{nothing_lost}
use Rattle.stream_ends.proofs.laws.nothing_is_lost.Goals as goal

pub returns : goal.returns
returns c = nothing_lost
