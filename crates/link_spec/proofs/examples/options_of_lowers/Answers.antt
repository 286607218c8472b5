use Rattle.std.specs.Prelude.{[], ◌∷◌}
use Rattle.comp_tree.specs.declared.items.CanonOption.TheVariants as option
use Rattle.link_spec.specs.Examples.{root, lowering, lowering_string}
use Rattle.link_spec.proofs.Samples.{linked_by, no_memory, no_realloc, post_return}
use Rattle.link_spec.proofs.examples.options_of_lowers.Goals as goal

pub returns-clause-no_memory : goal.returns-clause-no_memory
returns-clause-no_memory c = linked_by (root (lowering_string [])) _ no_memory

pub returns-clause-no_realloc : goal.returns-clause-no_realloc
returns-clause-no_realloc c = linked_by (root (lowering_string (option.Memory 0 ∷ []))) _ no_realloc

pub returns-clause-post_return : goal.returns-clause-post_return
returns-clause-post_return c = linked_by (root (lowering 0 (option.PostReturn 0 ∷ []))) _ post_return
