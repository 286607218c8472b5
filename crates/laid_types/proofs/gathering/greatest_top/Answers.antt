-- The number of a part is that of a type that is there, and no part more is the greatest.
use Rattle.laid_types.proofs.Deepest.{top_all}
use Rattle.laid_types.proofs.Steps.{number_there}
use Rattle.laid_types.proofs.gathering.greatest_top.Goals as goal

pub entry-requires : goal.entry-requires
entry-requires c = number_there c.args.types.now c.args.parts.now c.loop-part.part-index c.in-Some.number _ c.requires c.loop-part-test.true c.in-Some.is

pub returns : goal.returns
returns c = top_all c.args.types.now c.args.parts.now c.loop-part.part-index c.loop-part.top _ c.loop-part-test.false c.loop-part.invariant
