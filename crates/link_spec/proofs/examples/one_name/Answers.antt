use Rattle.link_spec.specs.Examples.{root, lifting_twice}
use Rattle.link_spec.proofs.Samples.{linked_by, lifts_twice}
use Rattle.link_spec.proofs.examples.one_name.Goals as goal

pub returns : goal.returns
returns c = linked_by (root lifting_twice) _ lifts_twice
