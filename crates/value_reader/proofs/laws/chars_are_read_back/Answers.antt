use Rattle.value_reader.proofs.WrittenBack.{written_char}
use Rattle.value_reader.proofs.laws.chars_are_read_back.Goals as goal

pub returns : goal.returns
returns c = written_char
