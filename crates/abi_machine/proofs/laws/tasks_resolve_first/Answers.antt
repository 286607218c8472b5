use Rattle.abi_machine.proofs.sound.Exiting.{first_resolves_first, resolve_first_stays}
use Rattle.abi_machine.proofs.laws.tasks_resolve_first.Goals as goal

pub returns : goal.returns
returns c = record { first = first_resolves_first; stays = resolve_first_stays }
