use Rattle.std.proofs.Common.{Some}
use Rattle.laid_types.specs.declared.layer.LabelledPart.{LabelledPart}
use Rattle.laid_types.proofs.Steps.{image_there}
use Rattle.laid_types.proofs.trees.fields.Goals as goal

pub share-requires : goal.share-requires
share-requires c = image_there c.args.types.now (λ (f : LabelledPart). Some f.number) c.args.labelled.now c.loop-field.field-index _ c.requires c.loop-field-test.true
