use Rattle.abi_machine.proofs.sound.Alone.{first_runs_alone, stays_alone}
use Rattle.abi_machine.proofs.laws.init_runs_alone.Goals as goal

pub returns : goal.returns
returns c = record { first = first_runs_alone; stays = stays_alone }
