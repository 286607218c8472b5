use Rattle.std.proofs.Common.{Some}
use Rattle.laid_types.proofs.Steps.{image_there}
use Rattle.laid_types.proofs.trees.places.Goals as goal

pub share-requires : goal.share-requires
share-requires c = image_there c.args.types.now Some c.args.numbers.now c.loop-number.number-index _ c.requires c.loop-number-test.true
