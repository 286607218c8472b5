use Rattle.standing.proofs.HandleDrops.{handle_is_dropped, resources_are_seen}
use Rattle.standing.proofs.moves.drops_agree.Goals as goal

pub returns : goal.returns
returns c = record { dropped = handle_is_dropped; seen = resources_are_seen }
