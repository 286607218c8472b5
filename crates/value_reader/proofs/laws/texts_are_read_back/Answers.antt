use Rattle.value_reader.proofs.WrittenBack.{written_text}
use Rattle.value_reader.proofs.laws.texts_are_read_back.Goals as goal

pub returns : goal.returns
returns c = written_text
