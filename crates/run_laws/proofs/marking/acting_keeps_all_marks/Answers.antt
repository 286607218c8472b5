-- The acting task keeps all marks.
use Rattle.run_laws.proofs.keeping.Acting.{woken_keeps, heard_keeps}
use Rattle.run_laws.proofs.marking.acting_keeps_all_marks.Goals as goal

pub returns : goal.returns
returns c = record { woken = woken_keeps; heard = heard_keeps }
