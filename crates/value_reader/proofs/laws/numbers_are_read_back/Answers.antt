use Rattle.value_reader.proofs.WrittenBack.{written_number}
use Rattle.value_reader.proofs.laws.numbers_are_read_back.Goals as goal

pub returns : goal.returns
returns c = written_number
