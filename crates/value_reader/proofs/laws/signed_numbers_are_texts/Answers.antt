use Rattle.value_reader.proofs.NumberTexts.{signed_are_texts}
use Rattle.value_reader.proofs.laws.signed_numbers_are_texts.Goals as goal

pub returns : goal.returns
returns c = signed_are_texts
