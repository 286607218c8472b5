use Rattle.std.specs.Prelude.{[], ◌∷◌}
use Rattle.link_spec.specs.Examples.{root, wanting, instantiate}
use Rattle.link_spec.proofs.Samples.{linked_by, linked_inside, never_begun, wanting_missing}
use Rattle.link_spec.proofs.examples.imports.Goals as goal

pub returns-clause-never_instantiated : goal.returns-clause-never_instantiated
returns-clause-never_instantiated c = linked_by (root (wanting ∷ [])) _ never_begun

pub returns-clause-instantiated : goal.returns-clause-instantiated
returns-clause-instantiated c = linked_inside (root (wanting ∷ instantiate ∷ [])) _ wanting_missing
