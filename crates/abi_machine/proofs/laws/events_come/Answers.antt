use Rattle.abi_machine.proofs.sound.Coming.{first_has_events, events_stay}
use Rattle.abi_machine.proofs.laws.events_come.Goals as goal

pub returns : goal.returns
returns c = record { first = first_has_events; stays = events_stay }
