-- A step keeps all marks, and keeps well what is kept.
use Rattle.run_laws.proofs.keeping.Steps.{step_keeps_all}
use Rattle.run_laws.proofs.marking.steps_keep_all_marks.Goals as goal

pub returns : goal.returns
returns c = step_keeps_all
