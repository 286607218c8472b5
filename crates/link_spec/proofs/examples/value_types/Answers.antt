use Rattle.comp_tree.specs.declared.items.Item.TheVariants as plain
use Rattle.std.specs.Prelude.{[], ◌∷◌, codes}
use Rattle.link_spec.specs.Examples.{root, u32, list_of, record_of}
use Rattle.link_spec.proofs.Samples.{linked_by}
use Rattle.link_spec.proofs.ValueSamples.{made, empty, label_twice, not_there}
use Rattle.link_spec.proofs.examples.value_types.Goals as goal

pub returns-clause-made : goal.returns-clause-made
returns-clause-made c = linked_by (root (plain.Type u32 ∷ list_of 0 ∷ list_of 1 ∷ record_of (codes "a" ∷ codes "b" ∷ []) 2 ∷ [])) _ made

pub returns-clause-empty : goal.returns-clause-empty
returns-clause-empty c = linked_by (root (record_of [] 0 ∷ [])) _ empty

pub returns-clause-twice : goal.returns-clause-twice
returns-clause-twice c = linked_by (root (plain.Type u32 ∷ record_of (codes "a" ∷ codes "a" ∷ []) 0 ∷ [])) _ label_twice

pub returns-clause-not_there : goal.returns-clause-not_there
returns-clause-not_there c = linked_by (root (record_of (codes "a" ∷ codes "a" ∷ []) 0 ∷ [])) _ not_there
