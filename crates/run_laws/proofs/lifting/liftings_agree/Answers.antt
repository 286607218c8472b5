use Rattle.run_laws.proofs.Liftings.{arguments_lift, results_lift, elements_lift}
use Rattle.run_laws.proofs.lifting.liftings_agree.Goals as goal

pub returns : goal.returns
returns c = record { arguments = arguments_lift; result = results_lift; elements = elements_lift }
