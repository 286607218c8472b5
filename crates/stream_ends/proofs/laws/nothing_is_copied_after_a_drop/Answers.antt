use Rattle.stream_ends.proofs.Keeping.{nothing_after_drop}
use Rattle.stream_ends.proofs.laws.nothing_is_copied_after_a_drop.Goals as goal

pub returns : goal.returns
returns c = nothing_after_drop
