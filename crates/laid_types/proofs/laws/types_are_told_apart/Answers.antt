use Rattle.laid_types.proofs.Numbers.{told_apart}
use Rattle.laid_types.proofs.laws.types_are_told_apart.Goals as goal

pub returns : goal.returns
returns c = told_apart
