use Rattle.run_laws.proofs.NamedCalls.{programs_are_named}
use Rattle.run_laws.proofs.turns.programs_are_named.Goals as goal

pub returns : goal.returns
returns c = programs_are_named
