use Rattle.value_reader.proofs.Wholes.{one_list}
use Rattle.value_reader.proofs.laws.texts_are_one_call.Goals as goal

pub returns : goal.returns
returns c = one_list
