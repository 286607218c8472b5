use Rattle.value_reader.proofs.WrittenBack.{written_signed}
use Rattle.value_reader.proofs.laws.signed_numbers_are_read_back.Goals as goal

pub returns : goal.returns
returns c = written_signed
