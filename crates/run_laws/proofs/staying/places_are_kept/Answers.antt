-- Places of waits are kept.
use Rattle.run_laws.proofs.keeping.still.Placed.{places_stand_kept}
use Rattle.run_laws.proofs.staying.places_are_kept.Goals as goal

pub returns : goal.returns
returns c = places_stand_kept
