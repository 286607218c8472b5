use Rattle.abi_machine.proofs.sound.places.Given.{places_are_given, places_go_on}
use Rattle.abi_machine.proofs.laws.places_are_given.Goals as goal

pub returns : goal.returns
returns c = record { given = places_are_given; goes_on = places_go_on }
