use Rattle.value_reader.proofs.Wholes.{one_value}
use Rattle.value_reader.proofs.laws.texts_are_one_value.Goals as goal

pub returns : goal.returns
returns c = one_value
