use Rattle.value_reader.proofs.Literals.{literals_are_texts}
use Rattle.value_reader.proofs.laws.literals_are_texts.Goals as goal

pub returns : goal.returns
returns c = literals_are_texts
