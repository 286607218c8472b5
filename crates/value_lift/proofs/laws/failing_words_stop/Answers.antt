use Rattle.value_lift.proofs.Faults.{failing_words_stop}
use Rattle.value_lift.proofs.laws.failing_words_stop.Goals as goal

pub returns : goal.returns
returns c = failing_words_stop
