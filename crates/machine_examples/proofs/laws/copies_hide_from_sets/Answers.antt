use Rattle.machine_examples.proofs.runs.Hidden.{hidden_shown}
use Rattle.machine_examples.proofs.laws.copies_hide_from_sets.Goals as goal

pub returns : goal.returns
returns c = hidden_shown
