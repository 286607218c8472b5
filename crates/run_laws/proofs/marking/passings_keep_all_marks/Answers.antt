-- Passings keep all marks.
use Rattle.run_laws.proofs.keeping.Elements.{passings_keep_marks}
use Rattle.run_laws.proofs.marking.passings_keep_all_marks.Goals as goal

pub returns : goal.returns
returns c = passings_keep_marks
