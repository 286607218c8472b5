use Rattle.run_laws.proofs.supplied.Arguments.{arguments_supplied}
use Rattle.run_laws.proofs.supplying.arguments_are_supplied.Goals as goal

pub returns : goal.returns
returns c = arguments_supplied
