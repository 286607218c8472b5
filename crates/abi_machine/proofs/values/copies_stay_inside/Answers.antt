use Rattle.abi_machine.proofs.sound.words.Inside.{first_stand_inside, copies_stay_inside, reached_stand_inside}
use Rattle.abi_machine.proofs.values.copies_stay_inside.Goals as goal

pub returns : goal.returns
returns c = record { first = first_stand_inside; stays = copies_stay_inside; reached = reached_stand_inside }
