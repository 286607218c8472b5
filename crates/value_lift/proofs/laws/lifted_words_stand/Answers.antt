use Rattle.value_lift.proofs.Loaded.{lifted_words_stand}
use Rattle.value_lift.proofs.laws.lifted_words_stand.Goals as goal

pub returns : goal.returns
returns c = lifted_words_stand
