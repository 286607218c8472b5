use Rattle.laid_types.specs.declared.layer.LabelledCase.{LabelledCase}
use Rattle.laid_types.proofs.Steps.{image_there}
use Rattle.laid_types.proofs.trees.cases.Goals as goal

pub payload-requires : goal.payload-requires
payload-requires c = image_there c.args.types.now (λ (d : LabelledCase). d.payload) c.args.labelled.now c.loop-case.case-index _ c.requires c.loop-case-test.true
