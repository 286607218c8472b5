use Rattle.lowering_laws.proofs.Standing.{stored_lists_stand}
use Rattle.lowering_laws.proofs.laws.stored_lists_stand.Goals as goal

pub returns : goal.returns
returns c = stored_lists_stand
