use Rattle.link_spec.proofs.Samples.{async_lifted, called_back, async_needs_no_memory, async_lowered, async_needs_memory}
use Rattle.link_spec.proofs.examples.types_of_kinds.Goals as goal

pub returns : goal.returns
returns c = record { lifted = async_lifted; called_back = called_back; no_memory = async_needs_no_memory; lowered = async_lowered; memory = async_needs_memory }
