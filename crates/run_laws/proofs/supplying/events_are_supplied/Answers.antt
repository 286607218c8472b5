use Rattle.run_laws.proofs.supplied.Hears.{events_are_heard, others_hear_nothing}
use Rattle.run_laws.proofs.supplying.events_are_supplied.Goals as goal

pub returns : goal.returns
returns c = record { resumes = events_are_heard; others = others_hear_nothing }
