use Rattle.std.specs.Prelude.{[], ◌∷◌, codes}
use Rattle.comp_tree.specs.declared.externs.ExternDesc.TheVariants as desc
use Rattle.comp_tree.specs.declared.types.DefType.TheVariants as plain_type
use Rattle.link_spec.specs.Examples.{of_lists}
use Rattle.link_spec.proofs.Samples.{linked_by}
use Rattle.link_spec.proofs.InstanceSamples.{within, beyond, exported, no_function, not_there}
use Rattle.link_spec.proofs.examples.depths_in_instance_types.Goals as goal

pub returns-clause-within : goal.returns-clause-within
returns-clause-within c = linked_by (of_lists 31 []) _ within

pub returns-clause-beyond : goal.returns-clause-beyond
returns-clause-beyond c = linked_by (of_lists 32 []) _ beyond

pub returns-clause-exported : goal.returns-clause-exported
returns-clause-exported c = linked_by (of_lists 32 (plain_type.Export (codes "a") (desc.TypeEq 32) ∷ [])) _ exported

pub returns-clause-no_function : goal.returns-clause-no_function
returns-clause-no_function c = linked_by (of_lists 32 (plain_type.Export (codes "a") (desc.Func 32) ∷ [])) _ no_function

pub returns-clause-not_there : goal.returns-clause-not_there
returns-clause-not_there c = linked_by (of_lists 32 (plain_type.Export (codes "a") (desc.TypeEq 33) ∷ [])) _ not_there
