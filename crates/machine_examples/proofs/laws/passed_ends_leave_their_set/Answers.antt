use Rattle.machine_examples.proofs.runs.Given.{given_shown}
use Rattle.machine_examples.proofs.laws.passed_ends_leave_their_set.Goals as goal

pub returns : goal.returns
returns c = given_shown
