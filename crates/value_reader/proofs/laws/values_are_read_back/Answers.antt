use Rattle.value_reader.proofs.ReadBack.{read_back}
use Rattle.value_reader.proofs.laws.values_are_read_back.Goals as goal

pub returns : goal.returns
returns c = read_back
