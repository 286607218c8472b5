use Rattle.comp_tree.specs.declared.instances.Sort.TheVariants as sorts
use Rattle.comp_tree.specs.declared.externs.ExternDesc.TheVariants as desc
use Rattle.comp_tree.specs.declared.items.Item.TheVariants as plain
use Rattle.std.specs.Prelude.{[], ◌∷◌, codes}
use Rattle.link_spec.specs.Examples.{root, u32, import, outer, export_type}
use Rattle.link_spec.proofs.Samples.{linked_by, function_imported, too_far, twice}
use Rattle.link_spec.proofs.examples.faults.Goals as goal

pub returns-clause-root_import : goal.returns-clause-root_import
returns-clause-root_import c = linked_by (root (import (desc.Func 0) ∷ [])) _ function_imported

pub returns-clause-too_far : goal.returns-clause-too_far
returns-clause-too_far c = linked_by (root (outer sorts.Type 1 0 ∷ [])) _ too_far

pub returns-clause-twice : goal.returns-clause-twice
returns-clause-twice c = linked_by (root (plain.Type u32 ∷ export_type (codes "a") ∷ export_type (codes "a") ∷ [])) _ twice
