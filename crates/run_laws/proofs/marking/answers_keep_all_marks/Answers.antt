-- Answers keep all marks.
use Rattle.run_laws.proofs.keeping.Answers.{answers_keep_all}
use Rattle.run_laws.proofs.marking.answers_keep_all_marks.Goals as goal

pub returns : goal.returns
returns c = answers_keep_all
