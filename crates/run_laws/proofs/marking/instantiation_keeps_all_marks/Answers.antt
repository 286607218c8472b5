-- Instantiation keeps all marks.
use Rattle.run_laws.proofs.keeping.Instantiating.{instantiating_marks}
use Rattle.run_laws.proofs.keeping.Ran.{running_marks}
use Rattle.run_laws.proofs.marking.instantiation_keeps_all_marks.Goals as goal

pub returns : goal.returns
returns c = record { instantiating = instantiating_marks; running = running_marks }
