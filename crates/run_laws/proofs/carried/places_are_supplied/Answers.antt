use Rattle.run_laws.proofs.onward.Tested.{places_supplied}
use Rattle.run_laws.proofs.carried.places_are_supplied.Goals as goal

pub returns : goal.returns
returns c = places_supplied c.steps_are_fed.ensures.copies
