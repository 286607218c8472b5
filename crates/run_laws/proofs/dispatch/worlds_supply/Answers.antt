use Rattle.run_laws.proofs.Reached.{calls_are_own, callers_run_there, worlds_are_sound}
use Rattle.run_laws.proofs.dispatch.worlds_supply.Goals as goal

pub returns : goal.returns
returns c = record { own = calls_are_own; callers = callers_run_there; sound = worlds_are_sound }
