use Rattle.std.specs.Prelude.{[]}
use Rattle.link_spec.specs.Examples.{root, lowering, passing}
use Rattle.link_spec.proofs.Samples.{linked_by, passes_one, no_function}
use Rattle.link_spec.proofs.examples.lowers.Goals as goal

pub returns-clause-made : goal.returns-clause-made
returns-clause-made c = linked_by (root passing) _ passes_one

pub returns-clause-not_there : goal.returns-clause-not_there
returns-clause-not_there c = linked_by (root (lowering 1 [])) _ no_function
