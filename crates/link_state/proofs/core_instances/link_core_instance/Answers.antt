use Rattle.std.proofs.Common.{sym}
use Rattle.link_state.proofs.core_instances.link_core_instance.Goals as goal

pub returns-in-Instantiate-clause-made : goal.returns-in-Instantiate-clause-made
returns-in-Instantiate-clause-made c = λ bases l s at reached. rw (c.in-Instantiate.is, sym c.as_slice.ensures) (c.link_instantiation.ensures.made bases l s at reached)

pub returns-in-Inline-clause-made : goal.returns-in-Inline-clause-made
returns-in-Inline-clause-made c = λ bases l s at reached. rw (c.in-Inline.is, sym c.as_slice-in-Inline.ensures) (c.link_inline.ensures.made bases l s at)
