use Rattle.link_spec.specs.Examples.{lists}
use Rattle.link_spec.proofs.Samples.{linked_by}
use Rattle.link_spec.proofs.DepthSamples.{within, beyond}
use Rattle.link_spec.proofs.examples.depths.Goals as goal

pub returns-clause-within : goal.returns-clause-within
returns-clause-within c = linked_by (lists 31) _ within

pub returns-clause-beyond : goal.returns-clause-beyond
returns-clause-beyond c = linked_by (lists 32) _ beyond
