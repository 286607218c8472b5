use Rattle.value_reader.proofs.NumberTexts.{numbers_are_texts}
use Rattle.value_reader.proofs.laws.numbers_are_texts.Goals as goal

pub returns : goal.returns
returns c = numbers_are_texts
