use Rattle.run_laws.proofs.Beside.{marks_supply, calls_are_in}
use Rattle.run_laws.proofs.dispatch.marks_last.Goals as goal
use Rattle.run_laws.proofs.marks.Calling.{answers_keep_marks}

pub returns : goal.returns
returns c = record { answers = answers_keep_marks; own = calls_are_in; supply = marks_supply }
