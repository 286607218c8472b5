use Rattle.lowering_laws.proofs.Standing.{lowered_words_are_lifted}
use Rattle.lowering_laws.proofs.laws.lowered_words_are_lifted.Goals as goal

pub returns : goal.returns
returns c = lowered_words_are_lifted
