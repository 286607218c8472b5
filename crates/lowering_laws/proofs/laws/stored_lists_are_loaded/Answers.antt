use Rattle.lowering_laws.proofs.Standing.{stored_lists_are_loaded}
use Rattle.lowering_laws.proofs.laws.stored_lists_are_loaded.Goals as goal

pub returns : goal.returns
returns c = stored_lists_are_loaded
