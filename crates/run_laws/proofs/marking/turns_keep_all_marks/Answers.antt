-- Turns keep all marks.
use Rattle.run_laws.proofs.keeping.Turned.{turns_all}
use Rattle.run_laws.proofs.marking.turns_keep_all_marks.Goals as goal

pub returns : goal.returns
returns c = turns_all
