use Rattle.lowering_laws.proofs.Standing.{lowered_words_stand}
use Rattle.lowering_laws.proofs.laws.lowered_words_stand.Goals as goal

pub returns : goal.returns
returns c = lowered_words_stand
