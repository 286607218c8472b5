use Rattle.run_laws.proofs.supplied.Fitted.{fitting_moves}
use Rattle.run_laws.proofs.supplying.fitting_moves_are_supplied.Goals as goal

pub returns : goal.returns
returns c = fitting_moves c.steps_are_fed.ensures.passes c.reached_worlds_are_typed.ensures.worlds
