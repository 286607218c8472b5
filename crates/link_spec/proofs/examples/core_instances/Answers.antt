use Rattle.std.specs.Prelude.{[], ◌∷◌}
use Rattle.comp_tree.specs.declared.items.Item.TheVariants as plain
use Rattle.link_spec.specs.Examples.{root, of_one, make_with_absent, lifting}
use Rattle.link_spec.proofs.Samples.{linked_by, lifts_one, absent_argument}
use Rattle.link_spec.proofs.examples.core_instances.Goals as goal

pub returns-clause-lifted : goal.returns-clause-lifted
returns-clause-lifted c = linked_by (root (lifting [])) _ lifts_one

pub returns-clause-absent : goal.returns-clause-absent
returns-clause-absent c = linked_by (root (plain.CoreModule of_one ∷ make_with_absent ∷ [])) _ absent_argument
