use Rattle.abi_machine.proofs.sound.Rising.{states_rise, subtasks_stay_untold}
use Rattle.abi_machine.proofs.laws.states_rise.Goals as goal

pub returns : goal.returns
returns c = record { rises = states_rise; stays = subtasks_stay_untold }
