use Rattle.value_reader.proofs.Wholes.{values_are_texts}
use Rattle.value_reader.proofs.laws.values_are_texts.Goals as goal

pub returns : goal.returns
returns c = values_are_texts
