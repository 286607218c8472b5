-- The number of a part is that of a type that is there.
use Rattle.laid_types.proofs.Steps.{number_there}
use Rattle.laid_types.proofs.gathering.row_laying.Goals as goal

pub entry-requires : goal.entry-requires
entry-requires c = number_there c.args.types.now c.args.parts.now c.loop-part.part-index c.in-Some.number _ c.requires c.loop-part-test.true c.in-Some.is
