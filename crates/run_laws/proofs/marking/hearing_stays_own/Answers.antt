-- Where an event is to come, subtasks are as it is asked.
use Rattle.run_laws.proofs.keeping.Hearing.{hears_own}
use Rattle.run_laws.proofs.marking.hearing_stays_own.Goals as goal

pub returns : goal.returns
returns c = hears_own
