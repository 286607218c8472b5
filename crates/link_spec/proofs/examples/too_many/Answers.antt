use Rattle.link_spec.proofs.Nesting.{nested_too_often}
use Rattle.link_spec.proofs.examples.too_many.Goals as goal

pub returns : goal.returns
returns c = nested_too_often
