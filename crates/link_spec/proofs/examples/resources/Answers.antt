use Rattle.std.specs.Prelude.{[], ◌∷◌, Some}
use Rattle.builtin_kinds.specs.declared.ResourceOp.TheVariants as resource_op
use Rattle.comp_tree.specs.declared.items.Item.TheVariants as plain
use Rattle.link_spec.specs.Examples.{root, u32, resource, of_resource, using, defining_twice, taking_outer}
use Rattle.link_spec.proofs.Samples.{linked_by, linked_inside, resource_used, two_defined, outer_dropped, outer_not_made, no_destructor, no_resource}
use Rattle.link_spec.proofs.examples.resources.Goals as goal

pub returns-clause-made : goal.returns-clause-made
returns-clause-made c = linked_by (using resource_op.New) _ resource_used

pub returns-clause-twice : goal.returns-clause-twice
returns-clause-twice c = linked_inside defining_twice _ two_defined

pub returns-clause-dropped : goal.returns-clause-dropped
returns-clause-dropped c = linked_inside (taking_outer resource_op.Drop) _ outer_dropped

pub returns-clause-not_made : goal.returns-clause-not_made
returns-clause-not_made c = linked_inside (taking_outer resource_op.New) _ outer_not_made

pub returns-clause-no_destructor : goal.returns-clause-no_destructor
returns-clause-no_destructor c = linked_by (root (resource (Some 0) ∷ [])) _ no_destructor

pub returns-clause-no_resource : goal.returns-clause-no_resource
returns-clause-no_resource c = linked_by (root (plain.Type u32 ∷ of_resource resource_op.Rep ∷ [])) _ no_resource
