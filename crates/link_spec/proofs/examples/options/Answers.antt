use Rattle.std.specs.Prelude.{[], ◌∷◌}
use Rattle.comp_tree.specs.declared.items.CanonOption.TheVariants as option
use Rattle.link_spec.specs.Examples.{root, lifting}
use Rattle.link_spec.proofs.Samples.{linked_by, lifts_with_memory, memory_twice, callback_alone, result_given}
use Rattle.link_spec.proofs.examples.options.Goals as goal

pub returns-clause-made : goal.returns-clause-made
returns-clause-made c = linked_by (root (lifting (option.Memory 0 ∷ []))) _ lifts_with_memory

pub returns-clause-twice : goal.returns-clause-twice
returns-clause-twice c = linked_by (root (lifting (option.Memory 0 ∷ option.Memory 0 ∷ []))) _ memory_twice

pub returns-clause-callback : goal.returns-clause-callback
returns-clause-callback c = linked_by (root (lifting (option.Callback 0 ∷ []))) _ callback_alone

pub returns-clause-asynchronous : goal.returns-clause-asynchronous
returns-clause-asynchronous c = linked_by (root (lifting (option.Async ∷ []))) _ result_given
