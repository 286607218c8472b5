use Rattle.machine_examples.proofs.runs.BadChar.{bad_char_shown}
use Rattle.machine_examples.proofs.laws.results_are_lifted_first.Goals as goal

pub returns : goal.returns
returns c = bad_char_shown
