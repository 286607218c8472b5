-- Ends stay marked where values of a task are passed.
use Rattle.run_laws.proofs.keeping.still.EndsStep.{passing_keeps_ends, scripts_pass_none}
use Rattle.run_laws.proofs.staying.passings_keep_ends.Goals as goal

pub returns : goal.returns
returns c = record { script = scripts_pass_none; steps = passing_keeps_ends }
