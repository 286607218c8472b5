use Rattle.value_reader.proofs.ReadFits.{sound_values_are_small}
use Rattle.value_reader.proofs.laws.sound_values_are_small.Goals as goal

pub returns : goal.returns
returns c = sound_values_are_small
